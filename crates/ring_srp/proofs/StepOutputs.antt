-- The sends and outputs of the pieces of a step, one after another, are those of the step.
use Rattle.std.proofs.Common.{◌≡◌, ℕ, Bool, true, false, List, [], ◌++◌, map, Result, Ok, Err, refl, ap, sym, ◌∙◌}
use Rattle.std.specs.Prelude.{◌&&◌, filter_map, Vec, IfOk}
use Rattle.std.proofs.lemmas.List.{append-nil, append_assoc}
use Rattle.ring_base.specs.declared.fault.Fault.{Fault}
use Rattle.ring_base.specs.declared.ring_id.RingId.{RingId}
use Rattle.ring_wire.specs.declared.token.Token.{Token}
use Rattle.ring_core_spec.specs.Tokens.{first_token}
use Rattle.ring_core_spec.specs.declared.input.Input.{Input}
use Rattle.ring_core_spec.specs.declared.out.Out.{Out}
use Rattle.ring_core_spec.specs.declared.out.Out.TheVariants.{Send}
use Rattle.ring_core_spec.specs.State.{Core, OutgoingFrame, TransitionResult, formed_ring_of, formed}
use Rattle.ring_core_spec.specs.Joining.{proposes}
use Rattle.ring_core_spec.specs.Deciding.{Transition, decide}
use Rattle.ring_core_spec.specs.Transitions.{apply_transition, may_propose_after, without_sends, with_proposal_if, transition_and_proposal}
use Rattle.ring_core_spec.specs.Views.{front, mark}
use Rattle.ring_core_spec.specs.Visiting.{token_visited}
use Rattle.ring_core_spec.specs.Giving.{sends_with_receivers, sent, send_of, delivered_from, agreed_and_safe_of_step, may_install, with_installation_if, step_result}
use Rattle.ring_core_spec.specs.Stepping.{ring_step}
use Rattle.ring_srp_transitions.proofs.Told.{none_both, none_delivered, none_settled}
use Rattle.ring_srp_transitions.proofs.Visits.{sends_with_receivers-append}
use Rattle.ring_srp.specs.Given.{IsGiven}

-- A proposal comes after the earlier sends

after_core : {A : Type 0} (b : Bool) (did : TransitionResult A) → (with_proposal_if b (without_sends did.core)).core ≡ (with_proposal_if b did).core
after_core true did = refl
after_core false did = refl

after_sends : {A : Type 0} (b : Bool) (did : TransitionResult A) → did.sends ++ (with_proposal_if b (without_sends did.core)).sends ≡ (with_proposal_if b did).sends
after_sends true did = refl
after_sends false did = append-nil did.sends

pub done_core : {A : Type 0} (c mid : Core A) (a : Transition A) → may_propose_after a ≡ true → mid ≡ (apply_transition c a).core
    → (with_proposal_if (proposes mid) (without_sends mid)).core ≡ (transition_and_proposal c a).core
done_core {A} c mid a f e =
    ap (λ (m : Core A). (with_proposal_if (proposes m) (without_sends m)).core) e
    ∙ after_core (proposes (apply_transition c a).core) (apply_transition c a)
    ∙ sym (ap (λ b. (with_proposal_if (b && proposes (apply_transition c a).core) (apply_transition c a)).core) f)

pub done_sends : {A : Type 0} (c mid : Core A) (a : Transition A) (before first all : List (OutgoingFrame A)) → may_propose_after a ≡ true → mid ≡ (apply_transition c a).core
    → first ≡ before ++ sends_with_receivers (apply_transition c a).sends → all ≡ first ++ sends_with_receivers (with_proposal_if (proposes mid) (without_sends mid)).sends
    → all ≡ before ++ sends_with_receivers (transition_and_proposal c a).sends
done_sends {A} c mid a before first all f e p q =
    let did = apply_transition c a in
    let s : sends_with_receivers did.sends ++ sends_with_receivers (with_proposal_if (proposes mid) (without_sends mid)).sends ≡ sends_with_receivers (transition_and_proposal c a).sends =
    ap (λ (m : Core A). sends_with_receivers did.sends ++ sends_with_receivers (with_proposal_if (proposes m) (without_sends m)).sends) e
    ∙ sym (sends_with_receivers-append did.sends (with_proposal_if (proposes did.core) (without_sends did.core)).sends)
    ∙ ap sends_with_receivers (after_sends (proposes did.core) did)
    ∙ sym (ap (λ b. sends_with_receivers (with_proposal_if (b && proposes did.core) did).sends) f) in
    q
    ∙ ap (λ (xs : List (OutgoingFrame A)). xs ++ sends_with_receivers (with_proposal_if (proposes mid) (without_sends mid)).sends) p
    ∙ append_assoc before (sends_with_receivers did.sends) (sends_with_receivers (with_proposal_if (proposes mid) (without_sends mid)).sends)
    ∙ ap (λ (xs : List (OutgoingFrame A)). before ++ xs) s

-- and where none may follow there is none
pub alone_core : {A : Type 0} (c : Core A) (a : Transition A) → may_propose_after a ≡ false → (apply_transition c a).core ≡ (transition_and_proposal c a).core
alone_core c a f = sym (ap (λ b. (with_proposal_if (b && proposes (apply_transition c a).core) (apply_transition c a)).core) f)

pub alone_sends : {A : Type 0} (c : Core A) (a : Transition A) → may_propose_after a ≡ false → (apply_transition c a).sends ≡ (transition_and_proposal c a).sends
alone_sends c a f = sym (ap (λ b. (with_proposal_if (b && proposes (apply_transition c a).core) (apply_transition c a)).sends) f)

-- The outputs of an installation come after the earlier outputs

settled_core : {A : Type 0} (b : Bool) (c : Core A) (outs : List (Out A)) → (with_installation_if b c []).core ≡ (with_installation_if b c outs).core
settled_core true c outs = refl
settled_core false c outs = refl

settled_behind : {A : Type 0} (b : Bool) (c : Core A) (outs : List (Out A)) → outs ++ (with_installation_if b c []).outs ≡ (with_installation_if b c outs).outs
settled_behind true c outs = refl
settled_behind false c outs = append-nil outs

pub delivered_core : {A : Type 0} (c mid : Core A) (a : Transition A) → mid ≡ (transition_and_proposal c a).core
    → (with_installation_if (may_install mid) mid []).core ≡ (step_result c (transition_and_proposal c a)).core
delivered_core {A} c mid a e =
    let did = transition_and_proposal c a in
    ap (λ (m : Core A). (with_installation_if (may_install m) m []).core) e
    ∙ settled_core (may_install did.core) did.core (sent did.sends ++ agreed_and_safe_of_step c did.core)

-- the chosen transition makes the step
pub decided_step : {A : Type 0} (c : Core A) (a : Transition A) (input : Input A) → a ≡ decide c input → step_result c (transition_and_proposal c a) ≡ ring_step c input
unfolding ring_step
decided_step {A} c a input d = ap (λ (b : Transition A). step_result c (transition_and_proposal c b)) d

-- The sends, and the other outputs after them, are the outputs of the step

is_given : {A : Type 0} (c mid : Core A) (a : Transition A) (sends : List (OutgoingFrame A)) (told : List (Out A)) → mid ≡ (transition_and_proposal c a).core
    → sends ≡ sends_with_receivers (transition_and_proposal c a).sends → told ≡ agreed_and_safe_of_step c mid ++ (with_installation_if (may_install mid) mid []).outs → IsGiven (step_result c (transition_and_proposal c a)).outs sends told
is_given {A} c mid a sends told e s t =
    let did = transition_and_proposal c a in
    let later = (with_installation_if (may_install did.core) did.core []).outs in
    let behind : told ≡ agreed_and_safe_of_step c did.core ++ later = t ∙ ap (λ (m : Core A). agreed_and_safe_of_step c m ++ (with_installation_if (may_install m) m []).outs) e in
    let join_outputs : sent did.sends ++ (agreed_and_safe_of_step c did.core ++ later) ≡ map (λ (s : OutgoingFrame A). Send s.to s.frame) sends ++ told =
    ap (λ (xs : List (OutgoingFrame A)). map (λ (s : OutgoingFrame A). Send s.to s.frame) xs ++ (agreed_and_safe_of_step c did.core ++ later)) (sym s)
    ∙ ap (λ (xs : List (Out A)). map (λ (s : OutgoingFrame A). Send s.to s.frame) sends ++ xs) (sym behind) in
    record {
      outs = sym (settled_behind (may_install did.core) did.core (sent did.sends ++ agreed_and_safe_of_step c did.core))
          ∙ append_assoc (sent did.sends) (agreed_and_safe_of_step c did.core) later
          ∙ join_outputs;
      told = ap (λ (xs : List (Out A)). filter_map send_of xs) behind
          ∙ none_both (agreed_and_safe_of_step c did.core) later
          (none_delivered did.core c.installed.ring (front c c.installed.ring) (mark c c.installed.ring)) (none_settled (may_install did.core) did.core);
    }

-- the same for the code's fields
pub told_behind : {A Z : Type 0} (c mid : Core A) (a : Transition A) (none sends : List (OutgoingFrame A)) (ring : RingId) (reached safe : ℕ)
    (r : Result (Vec (Out A) Z) Fault) → none ≡ [] → mid ≡ (transition_and_proposal c a).core → sends ≡ none ++ sends_with_receivers (transition_and_proposal c a).sends
    → ring ≡ c.installed.ring → reached ≡ front c c.installed.ring → safe ≡ mark c c.installed.ring
    → IfOk r (λ told. told.items ≡ delivered_from mid ring reached safe ++ (with_installation_if (may_install mid) mid []).outs)
    → IfOk r (λ told. IsGiven (step_result c (transition_and_proposal c a)).outs sends told.items)
told_behind {A} c mid a none sends ring reached safe (Ok told) n e s i f m t =
    let later = (with_installation_if (may_install mid) mid []).outs in
    is_given c mid a sends told.items e (s ∙ ap (λ (xs : List (OutgoingFrame A)). xs ++ sends_with_receivers (transition_and_proposal c a).sends) n)
    (t ∙ ap (λ q. delivered_from mid q reached safe ++ later) i ∙ ap (λ k. delivered_from mid c.installed.ring k safe ++ later) f
    ∙ ap (λ k. delivered_from mid c.installed.ring (front c c.installed.ring) k ++ later) m)
told_behind c mid a none sends ring reached safe (Err x) n e s i f m t = tt

-- joined in one list they are the step's outputs
pub joined_outs : {A : Type 0} (step outs told : List (Out A)) (sends : List (OutgoingFrame A)) → IsGiven step sends told
    → outs ≡ map (λ (s : OutgoingFrame A). Send s.to s.frame) sends ++ told → outs ≡ step
joined_outs step outs told sends g e = e ∙ sym g.outs

-- where nothing was sent before and there are no other outputs, the sends of the first visit are all
pub first_alone : {A Z : Type 0} (n : ℕ) (c : Core A) (t : Token) (before sends : List (OutgoingFrame A)) (told : List (Out A)) (r : Result (Vec (Out A) Z) Fault)
    → before ≡ [] → sends ≡ before ++ sends_with_receivers (token_visited c t).sends → told ≡ []
    → IfOk r (λ outs. outs.items ≡ map (λ (s : OutgoingFrame A). Send s.to s.frame) sends ++ told) → c ≡ formed n 1 → t ≡ first_token (formed_ring_of n).ring
    → IfOk r (λ outs. outs.items ≡ sent (token_visited {A = A} (formed n 1) (first_token (formed_ring_of n).ring)).sends)
first_alone {A} n c t before sends told (Ok outs) none gives silent all same first =
    all ∙ rw (gives, none, silent, same, first) (append-nil (sent (token_visited {A = A} (formed n 1) (first_token (formed_ring_of n).ring)).sends))
first_alone n c t before sends told (Err x) none gives silent all same first = tt

pub first_core : {A : Type 0} (n : ℕ) (c d : Core A) (t : Token) → d ≡ (token_visited c t).core → c ≡ formed n 1 → t ≡ first_token (formed_ring_of n).ring →
    d ≡ (token_visited (formed n 1) (first_token (formed_ring_of n).ring)).core
first_core {A} n c d t gives same first = gives ∙ ap (λ (e : Core A). (token_visited e t).core) same ∙ ap (λ k. (token_visited {A = A} (formed n 1) k).core) first
