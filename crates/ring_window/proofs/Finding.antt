-- A held number's message is found, a number with a found message is held, and what was held stays held with more messages.
use Rattle.std.proofs.Common.{◌≡◌, ℕ, inl, inr, true, List, [], ◌∷◌, Some, ◌∙◌, Option, refl, ◌++◌}
use Rattle.std.proofs.lemmas.Bool.{cond-true, cond-false, cases_Bool, or_cases, false≢true, both_ways, cond_both, or_right}
use Rattle.ring_base.specs.declared.ring_id.RingId.{RingId}
use Rattle.ring_wire.specs.declared.message.Message.{Message}
use Rattle.ring_window.specs.Held.{is_numbered, found, holds}

-- A held number's message is found.
pub holds-found : {A : Type 0} → (held : List (Message A)) (ring : RingId) (n : ℕ) → holds held ring n ≡ true → (x : Message A) × (found held ring n ≡ Some x)
holds-found [] ring n h = absurd (false≢true h)
holds-found {A} (y ∷ held) ring n h =
    elim (cases_Bool (is_numbered ring n y)) [
      | inl e ↦ (y, cond-true (is_numbered ring n y) (Some y) (found held ring n) e)
      | inr e ↦ (let r = holds-found held ring n (elim (or_cases (is_numbered ring n y) (holds held ring n) h)
          [ inl t ↦ absurd (both_ways (is_numbered ring n y) e t) | inr t ↦ t ]) in
          (r.0, cond-false (is_numbered ring n y) (Some y) (found held ring n) e ∙ r.1))
    ]

-- A number with a found message is held.
pub found-holds : {A : Type 0} → (held : List (Message A)) (ring : RingId) (n : ℕ) (x : Message A) → found held ring n ≡ Some x → holds held ring n ≡ true
found-holds [] ring n x e = absurd (let q : ⊥ = cc in q)
found-holds {A} (y ∷ held) ring n x e =
    cond_both (is_numbered ring n y) (Some y) (found held ring n) (λ (o : Option (Message A)). o ≡ Some x → holds (y ∷ held) ring n ≡ true)
    (λ t k. rw t refl) (λ t k. rw (t, found-holds held ring n x k) refl) e

-- With more messages, what was held is held.
pub holds-more : {A : Type 0} → (xs held : List (Message A)) (r : RingId) (n : ℕ) → holds held r n ≡ true → holds (xs ++ held) r n ≡ true
holds-more [] held r n h = h
holds-more (x ∷ xs) held r n h = or_right (is_numbered r n x) (holds (xs ++ held) r n) (holds-more xs held r n h)
