-- The frames sent in a core's step, each to somebody. No other output is a frame.
use Rattle.std.proofs.Common.{◌≡◌, Bool, true, false, List, [], ◌∷◌, ◌++◌, None, refl, ap, sym, ◌∙◌, subst, append_assoc}
use Rattle.std.specs.Prelude.{filter_map, map}
use Rattle.std.specs.List.{AllByRecursion as Each, cons_option}
use Rattle.std.proofs.lemmas.List.{append-nil}
use Rattle.std.proofs.lemmas.List.Elements.{filter_map-append}
use Rattle.ring_base.proofs.Each.{each-append}
use Rattle.ring_core_spec.specs.declared.input.Input.{Input}
use Rattle.ring_core_spec.specs.declared.out.Out.{Out}
use Rattle.ring_core_spec.specs.declared.out.Out.TheVariants.{Send, Agreed, Safe, Trans, Rest, Regular}
use Rattle.ring_core_spec.specs.Transitions.{transition_and_proposal}
use Rattle.ring_core_spec.specs.Deciding.{decide}
use Rattle.ring_core_spec.specs.Giving.{sends_with_receivers, sent, agreed_and_safe_of_step, installation_outputs, with_installation_if, may_install, send_of}
use Rattle.ring_core_spec.specs.State.{Core, OutgoingFrame}
use Rattle.ring_core_spec.specs.Stepping.{ring_step}
use Rattle.ring_core_proof.proofs.Lifting.{IsTold, told_from, told_configured}

told_none : {A : Type 0} → (o : Out A) → IsTold o → send_of o ≡ None
told_none (Send to frame) h = absurd (let e = h 0 in let x : ⊥ = cc in x)
told_none (Agreed ring n x) h = refl
told_none (Safe ring upto) h = refl
told_none (Trans old new set) h = refl
told_none (Rest ring n x) h = refl
told_none (Regular ring set) h = refl

none_sent : {A : Type 0} → (outs : List (Out A)) → Each IsTold outs → filter_map send_of outs ≡ []
none_sent [] h = refl
none_sent {A} (o ∷ outs) h = ap (λ x. cons_option x (filter_map send_of outs)) (told_none o h.0) ∙ none_sent outs h.1

all_sent : {A : Type 0} → (sends : List (OutgoingFrame A)) → filter_map send_of (map (λ (s : OutgoingFrame A). Send s.to s.frame) sends) ≡ sends
all_sent [] = refl
all_sent (s ∷ sends) = ap (λ xs. s ∷ xs) (all_sent sends)

only_sent : {A : Type 0} → (sends : List (OutgoingFrame A)) (told : List (Out A)) → Each IsTold told → filter_map send_of (sent sends ++ told) ≡ sends_with_receivers sends
only_sent {A} sends told h =
    filter_map-append send_of (sent sends) told ∙ ap (λ xs. xs ++ filter_map send_of told) (all_sent (sends_with_receivers sends))
    ∙ ap (λ xs. sends_with_receivers sends ++ xs) (none_sent told h) ∙ append-nil (sends_with_receivers sends)

settled_sends : {A : Type 0} → (old c : Core A) (sends : List (OutgoingFrame A)) (b : Bool) →
    filter_map send_of (with_installation_if b c (sent sends ++ agreed_and_safe_of_step old c)).outs ≡ sends_with_receivers sends
settled_sends old c sends false = only_sent sends (agreed_and_safe_of_step old c) (told_from c old.installed.ring _ _)
settled_sends {A} old c sends true =
    let told : Each IsTold (agreed_and_safe_of_step old c ++ installation_outputs c) =
    each-append IsTold (agreed_and_safe_of_step old c) (installation_outputs c) (told_from c old.installed.ring _ _) (told_configured c) in
    subst (λ (outs : List (Out A)). filter_map send_of outs ≡ sends_with_receivers sends) (sym (append_assoc (sent sends) (agreed_and_safe_of_step old c) (installation_outputs c)))
    (only_sent sends (agreed_and_safe_of_step old c ++ installation_outputs c) told)

pub step_sends : {A : Type 0} → (c : Core A) (i : Input A) → filter_map send_of (ring_step c i).outs ≡ sends_with_receivers (transition_and_proposal c (decide c i)).sends
unfolding ring_step
step_sends c i = let did = transition_and_proposal c (decide c i) in settled_sends c did.core did.sends (may_install did.core)
