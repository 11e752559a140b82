-- A node's messages of all rings are in one list, a window's of one ring; facts about one ring agree.
use Rattle.std.proofs.Common.{◌≡◌, ℕ, ◌+◌, Bool, List, [], ◌∷◌, map, filter, refl, ap, ◌∙◌, inl, inr}
use mathlib.Core.Path.{fun_ext}
use Rattle.std.specs.Prelude.{not, min, ◌-◌}
use Rattle.std.specs.List.{prefix_len}
use Rattle.std.proofs.lemmas.Bool.{cases_Bool, cond-true, cond-false}
use Rattle.ring_base.specs.Rings.{same_ring}
use Rattle.ring_base.specs.Numbers.{window_size, greatest, numbers_from}
use Rattle.ring_base.specs.declared.ring_id.RingId.{RingId}
use Rattle.ring_wire.specs.declared.message.Message.{Message}
use Rattle.ring_window.specs.Bits.{bytes_from_bits, held_bits}
use Rattle.ring_window.specs.Held.{found, holds, of_ring, highest, front_of, is_new, missing}

pub of_ring_twice : {A : Type 0} (held : List (Message A)) (ring : RingId) → of_ring ring (of_ring ring held) ≡ of_ring ring held
of_ring_twice [] ring = refl
of_ring_twice (x ∷ held) ring = elim (cases_Bool (same_ring x.ring ring)) [
  | inl e ↦ rw (
    cond-true (same_ring x.ring ring) (x ∷ of_ring ring held) (of_ring ring held) e,
    cond-true (same_ring x.ring ring) (x ∷ of_ring ring (of_ring ring held)) (of_ring ring (of_ring ring held)) e,
  )
      (ap (λ ys. x ∷ ys) (of_ring_twice held ring))
  | inr e ↦ rw (cond-false (same_ring x.ring ring) (x ∷ of_ring ring held) (of_ring ring held) e) (of_ring_twice held ring)
]

pub found_of_ring : {A : Type 0} (held : List (Message A)) (ring : RingId) (n : ℕ) → found (of_ring ring held) ring n ≡ found held ring n
found_of_ring [] ring n = refl
found_of_ring (x ∷ held) ring n = elim (cases_Bool (same_ring x.ring ring)) [
  | inl e ↦ rw (cond-true (same_ring x.ring ring) (x ∷ of_ring ring held) (of_ring ring held) e, found_of_ring held ring n) refl
  | inr e ↦ rw (cond-false (same_ring x.ring ring) (x ∷ of_ring ring held) (of_ring ring held) e, found_of_ring held ring n, e) refl
]

pub holds_of_ring : {A : Type 0} (held : List (Message A)) (ring : RingId) (n : ℕ) → holds (of_ring ring held) ring n ≡ holds held ring n
holds_of_ring [] ring n = refl
holds_of_ring (x ∷ held) ring n = elim (cases_Bool (same_ring x.ring ring)) [
  | inl e ↦ rw (cond-true (same_ring x.ring ring) (x ∷ of_ring ring held) (of_ring ring held) e, holds_of_ring held ring n) refl
  | inr e ↦ rw (cond-false (same_ring x.ring ring) (x ∷ of_ring ring held) (of_ring ring held) e, holds_of_ring held ring n, e) refl
]

pub all_of_ring : {A : Type 0} (held : List (Message A)) (ring : RingId) → holds (of_ring ring held) ring ≡ holds held ring
all_of_ring held ring = fun_ext (λ n. holds_of_ring held ring n)

pub highest_of_ring : {A : Type 0} (held : List (Message A)) (ring : RingId) → highest (of_ring ring held) ring ≡ highest held ring
highest_of_ring {A} held ring = ap (λ (xs : List (Message A)). greatest (map (λ (x : Message A). x.number) xs)) (of_ring_twice held ring)

pub front_of_ring : {A : Type 0} (held : List (Message A)) (ring : RingId) → front_of (of_ring ring held) ring ≡ front_of held ring
front_of_ring held ring = ap (λ (p : ℕ → Bool). prefix_len p (numbers_from 1 (highest (of_ring ring held) ring))) (all_of_ring held ring)
    ∙ ap (λ n. prefix_len (holds held ring) (numbers_from 1 n)) (highest_of_ring held ring)

pub is_new_of_ring : {A : Type 0} (held : List (Message A)) (mark : ℕ) (ring : RingId) (n : ℕ)
    → is_new (of_ring ring held) mark ring n ≡ is_new held mark ring n
is_new_of_ring held mark ring n = rw (holds_of_ring held ring n) refl

pub missing_of_ring : {A : Type 0} (held : List (Message A)) (ring : RingId) (mark upto : ℕ)
    → missing (of_ring ring held) ring mark upto ≡ missing held ring mark upto
missing_of_ring held ring mark upto =
    ap (λ (p : ℕ → Bool). filter (λ n. not (p n)) (numbers_from (mark + 1) (min window_size (upto - mark))))
    (all_of_ring held ring)

pub held_bits_of_ring : {A : Type 0} (held : List (Message A)) (ring : RingId) → held_bits (of_ring ring held) ring ≡ held_bits held ring
held_bits_of_ring held ring = ap (λ (p : ℕ → Bool). bytes_from_bits p (front_of (of_ring ring held) ring + 1) 32) (all_of_ring held ring)
    ∙ ap (λ n. bytes_from_bits (holds held ring) (n + 1) 32) (front_of_ring held ring)

pub all_found : {A : Type 0} (held : List (Message A)) (ring : RingId) → found (of_ring ring held) ring ≡ found held ring
all_found held ring = fun_ext (λ n. found_of_ring held ring n)
