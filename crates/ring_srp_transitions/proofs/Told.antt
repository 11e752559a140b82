-- The outputs other than sends have no frames.
use Rattle.std.proofs.Common.{◌≡◌, ℕ, Bool, true, false, List, [], ◌∷◌, ◌++◌, map, None, refl, ap, ◌∙◌}
use Rattle.std.specs.Prelude.{nat_lt, filter_map}
use Rattle.std.specs.List.{cons_option}
use Rattle.std.proofs.lemmas.Bool.{cond_both}
use Rattle.std.proofs.lemmas.List.Elements.{filter_map-append}
use Rattle.ring_base.specs.declared.ring_id.RingId.{RingId}
use Rattle.ring_wire.specs.declared.message.Message.{Message}
use Rattle.ring_recover.specs.Deliveries.{rest_messages}
use Rattle.ring_core_spec.specs.declared.out.Out.{Out}
use Rattle.ring_core_spec.specs.declared.out.Out.TheVariants.{Agreed, Safe, Rest, Regular}
use Rattle.ring_core_spec.specs.State.{Core}
use Rattle.ring_core_spec.specs.Views.{front, mark, plan}
use Rattle.ring_core_spec.specs.Giving.{send_of, user_messages_between, agreed_from, safe_from, delivered_from, with_installation_if}

none_among : {A B : Type 0} (f : B → Out A) (xs : List B) → ((x : B) → send_of (f x) ≡ None) → filter_map send_of (map f xs) ≡ []
none_among f [] h = refl
none_among f (x ∷ xs) h = ap (λ o. cons_option o (filter_map send_of (map f xs))) (h x) ∙ none_among f xs h

pub none_both : {A : Type 0} (a b : List (Out A)) → filter_map send_of a ≡ [] → filter_map send_of b ≡ [] → filter_map send_of (a ++ b) ≡ []
none_both a b f g = filter_map-append send_of a b ∙ ap (λ xs. xs ++ filter_map send_of b) f ∙ g

-- what is newly agreed and safe
pub none_delivered : {A : Type 0} (c : Core A) (ring : RingId) (reached safe : ℕ) → filter_map send_of (delivered_from c ring reached safe) ≡ []
none_delivered {A} c ring reached safe =
    none_both (agreed_from c ring reached) (safe_from c ring safe)
    (none_among (λ (x : Message A). Agreed ring x.number x) (user_messages_between c ring reached (front c ring)) (λ x. refl))
    (cond_both (nat_lt safe (mark c ring)) (Safe ring (mark c ring) ∷ []) [] (λ (outs : List (Out A)). filter_map send_of outs ≡ [])
    (λ e. refl) (λ e. refl))

-- the outputs of an installation
pub none_settled : {A : Type 0} (b : Bool) (c : Core A) → filter_map send_of (with_installation_if b c []).outs ≡ []
none_settled false c = refl
none_settled {A} true c =
    let rest = λ (x : Message A). Rest x.ring x.number x in
    none_both (map rest (rest_messages (plan c) c.held)) (Regular c.running.ring c.running.members ∷ delivered_from c c.running.ring 0 0)
    (none_among rest (rest_messages (plan c) c.held) (λ x. refl)) (none_delivered c c.running.ring 0 0)
