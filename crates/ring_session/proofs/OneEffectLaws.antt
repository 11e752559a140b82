-- Each client's call has one effect and one reply.
use Rattle.std.proofs.Common.{◌≡◌, ℕ, zero, suc, ◌+◌, ◌==◌, ◌&&◌, nat_lt, Bool, true, false, List, [], ◌∷◌, ◌++◌}
use Rattle.std.proofs.Common.{length, take, Some, position, refl, ap, sym, subst, ◌∙◌, arith, append_assoc}
use Rattle.std.proofs.Common.{length-append, if◌then◌else◌}
use Rattle.std.proofs.lemmas.List.{append-nil}
use Rattle.ring_base.specs.Prefixes.{prefix_append}
use Rattle.ring_object.specs.Operations.{Sequential}
use Rattle.ring_payload.specs.declared.call.Call.{Call}
use Rattle.ring_session.specs.declared.answer.Answer.{Answer}
use Rattle.ring_session.specs.declared.answer.Answer.TheVariants.{Done}
use Rattle.ring_base.specs.declared.fault.Fault.TheVariants.{Stale, NumberGap, SessionsFull}
use Rattle.ring_session.specs.Deduplicated.{count_of, may_call, takes_effect, deduplicated_after, deduplicated, IsCallAt}
use Rattle.ring_session.specs.DeduplicatedLaws.{deduplicated-push, deduplicated-numbered}
use Rattle.ring_session.specs.SessionAnswer.{refusal, is_same, repeated_call_answer, call_reply}
use Rattle.ring_session.specs.SessionAnswerLaws.{one_reply, session_answer-at, session_answer-front, answered, answered-number, done_once}
use Rattle.ring_session.specs.OneEffect.{EachIsDone, IsDoneOnce, RepliesAreTheObjects, RepliesAreOne, AnswersStay}

-- ---- a call that takes effect has its place in the list

-- The place at which a call takes effect, after the calls before.
record EffectAt {A : Type 0} (before calls : List (Call A)) (q : ℕ) (c : Call A) : Type 0 where
  place : ℕ
  stands : IsCallAt calls place c
  taken : takes_effect (deduplicated (before ++ take place calls)) c ≡ true
  earlier : length (deduplicated (before ++ take place calls)) ≡ length (deduplicated before) + q

first_effect : {A : Type 0} (before cs : List (Call A)) (c : Call A) → takes_effect (deduplicated before) c ≡ true → EffectAt before (c ∷ cs) 0 c
first_effect before cs c taken =
    let same : before ++ [] ≡ before = append-nil before in
    record {
      place = 0;
      stands = refl;
      taken = ap (λ w. takes_effect (deduplicated w) c) same ∙ taken;
      earlier = let e : length (deduplicated (before ++ [])) ≡ length (deduplicated before) = ap (λ w. length (deduplicated w)) same in omega (arith, e);
    }

later_effect : {A : Type 0} (before cs : List (Call A)) (d c : Call A) (q n : ℕ) → EffectAt (before ++ d ∷ []) cs q c
    → length (deduplicated (before ++ d ∷ [])) + q ≡ length (deduplicated before) + n → EffectAt before (d ∷ cs) n c
later_effect before cs d c q n effect many =
    let same : (before ++ d ∷ []) ++ take effect.place cs ≡ before ++ take (suc effect.place) (d ∷ cs) = append_assoc before (d ∷ []) (take effect.place cs) in
    record {
      place = suc effect.place;
      stands = effect.stands;
      taken = ap (λ w. takes_effect (deduplicated w) c) (sym same) ∙ effect.taken;
      earlier = ap (λ w. length (deduplicated w)) (sym same) ∙ effect.earlier ∙ many;
    }

effect_step : {A : Type 0} (before cs : List (Call A)) (d : Call A) (b : Bool) → takes_effect (deduplicated before) d ≡ b
    → ((q : ℕ) (c : Call A) → IsCallAt (deduplicated_after (deduplicated (before ++ d ∷ [])) cs) q c → EffectAt (before ++ d ∷ []) cs q c)
    → (q : ℕ) (c : Call A) → IsCallAt (if b then d ∷ deduplicated_after (deduplicated before ++ d ∷ [])
    cs else deduplicated_after (deduplicated before) cs) q c → EffectAt before (d ∷ cs) q c
effect_step before cs d true is rest zero c at =
    let same : d ≡ c = cc at in
    subst (EffectAt before (d ∷ cs) 0) same (first_effect before cs d is)
effect_step before cs d true is rest (suc q) c at =
    let kept = deduplicated before in
    let grown : deduplicated (before ++ d ∷ []) ≡ kept ++ d ∷ [] = deduplicated-push before d ∙ ap (λ b. kept ++ (if b then d ∷ [] else [])) is in
    let effect = rest q c (subst (λ w. IsCallAt (deduplicated_after w cs) q c) (sym grown) at) in
    later_effect before cs d c q (suc q) effect (omega (arith, ap length grown, length-append kept (d ∷ [])))
effect_step before cs d false is rest q c at =
    let kept = deduplicated before in
    let same : deduplicated (before ++ d ∷ []) ≡ kept = deduplicated-push before d ∙ ap (λ b. kept ++ (if b then d ∷ [] else [])) is ∙ append-nil kept in
    let effect = rest q c (subst (λ w. IsCallAt (deduplicated_after w cs) q c) (sym same) at) in
    later_effect before cs d c q q effect (omega (arith, ap length same))

effect_at : {A : Type 0} (before calls : List (Call A)) (q : ℕ) (c : Call A)
    → IsCallAt (deduplicated_after (deduplicated before) calls) q c → EffectAt before calls q c
effect_at before [] q c at = absurd (cc at)
effect_at before (d ∷ cs) q c at = effect_step before cs d (takes_effect (deduplicated before) d) refl (effect_at (before ++ d ∷ []) cs) q c at

done_answer : (next room last old : Bool) (x : List ℕ) (k : Answer) → next && room ≡ true
    → (if next then (if room then Done x else refusal SessionsFull) else if last then k else if old then refusal Stale else refusal NumberGap) ≡ Done x
done_answer true true last old x k both = refl
done_answer true false last old x k both = absurd (cc both)
done_answer false room last old x k both = absurd (cc both)

module _ {O A : Type 0} (object : Sequential O) where
  pub each_is_done : (calls : List (Call A)) → EachIsDone object calls
  each_is_done calls q c at =
      let effect = effect_at [] calls q c at in
      let kept = deduplicated (take effect.place calls) in
      let replies : ℕ → List ℕ = call_reply object (deduplicated calls) in
      let done = done_answer (c.number == count_of c.client kept + 1) (may_call kept c.client)
      (c.number == count_of c.client kept) (nat_lt c.number (count_of c.client kept))
      (replies (length kept)) (repeated_call_answer replies (position (is_same c) kept)) effect.taken in
      let place : length kept ≡ q = omega (arith, effect.earlier) in
      (effect.place, effect.stands, session_answer-at object calls effect.place c effect.stands ∙ ap Some (done ∙ ap (λ n. Done (replies n)) place))

  pub is_done_once : (calls : List (Call A)) → IsDoneOnce object calls
  is_done_once = done_once object

  pub replies_are_the_objects : (calls : List (Call A)) → RepliesAreTheObjects object calls
  replies_are_the_objects calls p c r replied = (
    answered object calls p c replied.answer r replied.stands replied.told replied.brings,
    answered-number object calls p c replied.answer r replied.stands replied.told replied.brings,
  )

  pub replies_are_one : (calls : List (Call A)) → RepliesAreOne object calls
  replies_are_one calls p q c d r s x y client number =
      one_reply object (deduplicated calls) (deduplicated-numbered calls) c d r s
      (replies_are_the_objects calls p c r x).0 (replies_are_the_objects calls q d s y).0 client number

  pub answers_stay : (calls : List (Call A)) → AnswersStay object calls
  answers_stay calls more p c at = session_answer-front object calls (calls ++ more) p c at (prefix_append calls more)
