-- One more poll of a port, and one more port.
use Rattle.std.proofs.Common.{◌≡◌, ℕ, ◌+◌, ◌-◌, ◌^◌, ◌<◌, min, List, length, take, drop, Option}
use Rattle.std.proofs.Common.{Some, None, IfSome, All, slice_set, ap, sym, subst, ◌∙◌, arith}
use Rattle.std.proofs.Common.{length-set, drop-drop, drop-set-lt}
use Rattle.std.proofs.lemmas.List.{take-set, take_more_set}
use Rattle.std.proofs.lemmas.List.Elements.{All-push}
use Rattle.ring_session.specs.declared.answer.Answer.{Answer}
use Rattle.ring_client.specs.declared.last_request.Asked.{Asked}
use Rattle.ring_client.specs.Asking.{asked_after_poll, HasNoAnswer, HasAnswered}
use Rattle.ring_client.specs.Outcomes.{HaveNoAnswer, HasAnswer}
use Rattle.ring_base.proofs.ListPlaces.{get-set}

-- a poll after `counter` polls without an answer, if it gives one
pub answered-poll : (call before after : Asked) (turns counter : ℕ) (result : Option Answer) → counter < turns → turns < 2 ^ 64
    → before ≡ record (call) { polls = counter } → after ≡ asked_after_poll result before → IfSome result (λ answer. HasAnswered call turns answer after)
answered-poll call before after turns counter None within fits is polls = tt
answered-poll call before after turns counter (Some answer) within fits is polls =
    let more : min (counter + 1) (2 ^ 64 - 1) ≡ counter + 1 = omega arith in
    (counter + 1, omega arith, omega arith, polls ∙ ap (asked_after_poll (Some answer)) is ∙ ap (λ (n : ℕ). record (call) { polls = n; answer = Some answer }) more)

module _ {P : Type 0} (asked : P → Asked) (call : Asked) (turns : ℕ) (old ports : List P) (i : ℕ) (port : P) where
  untouched_behind : drop i ports ≡ drop i old → drop (i + 1) (slice_set ports i port) ≡ drop (i + 1) old
  untouched_behind same = drop-set-lt (i + 1) ports i port (omega arith) ∙ sym (drop-drop 1 i ports) ∙ ap (drop 1) same ∙ drop-drop 1 i old

  -- the port at place i also gave no answer
  pub asked_more : (submit : Asked) → submit ≡ call → HaveNoAnswer asked call turns old ports i → i < length ports → HasNoAnswer submit turns (asked port)
      → HaveNoAnswer asked call turns old (slice_set ports i port) (i + 1)
  asked_more submit same are within in_vain = record {
    in_vain = subst (All (λ p. HasNoAnswer call turns (asked p))) (sym (take_more_set ports i port within))
        (All-push (λ p. HasNoAnswer call turns (asked p)) (take i ports) port are.in_vain (rw (← same) in_vain));
    untouched = untouched_behind are.untouched;
    same_length = length-set ports i port ∙ are.same_length;
  }

  -- the port at place i answered
  pub answered_at : (submit : Asked) → submit ≡ call → (answer : Answer) → HaveNoAnswer asked call turns old ports i → i < length ports
      → HasAnswered submit turns answer (asked port) → HasAnswer asked call turns old (slice_set ports i port) answer
  answered_at submit same answer are within answered = record {
    place = i;
    port = port;
    here = get-set ports i port within;
    answered = rw (← same) answered;
    in_vain = subst (All (λ p. HasNoAnswer call turns (asked p))) (sym (take-set ports i port)) are.in_vain;
    untouched = untouched_behind are.untouched;
    same_length = length-set ports i port ∙ are.same_length;
  }
