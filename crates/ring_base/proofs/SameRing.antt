-- Two names are of one ring if they are equal, and of two if they or their numbers differ.
use Rattle.std.proofs.Common.{◌≡◌, true, false, eqb, ◌<◌, refl, ap, arith}
use Rattle.std.proofs.lemmas.Bool.{and_parts, eqb-true, and_from, eq-eqb, false_from_ne_true, ne_eqb}
use Rattle.std.specs.Prelude.{◌==◌, ◌&&◌}
use Rattle.ring_base.specs.Rings.{same_ring}
use Rattle.ring_base.specs.declared.ring_id.RingId.{RingId}

pub ring_same : (a b : RingId) → same_ring a b ≡ true → a ≡ b
ring_same a b h =
    let e : a.seq ≡ b.seq = eqb-true a.seq b.seq (and_parts (eqb a.seq b.seq) (eqb a.rep b.rep) h).0 in
    let f : a.rep ≡ b.rep = eqb-true a.rep b.rep (and_parts (eqb a.seq b.seq) (eqb a.rep b.rep) h).1 in
    λ i. record { seq = e i; rep = f i }

-- a ring is the same as itself
pub same-self : (r : RingId) → same_ring r r ≡ true
same-self r = and_from (r.seq == r.seq) (r.rep == r.rep) (eq-eqb r.seq r.seq refl) (eq-eqb r.rep r.rep refl)

-- equal names are of one ring
pub ring_itself : (a b : RingId) → a ≡ b → same_ring a b ≡ true
ring_itself a b e = and_from (a.seq == b.seq) (a.rep == b.rep) (eq-eqb a.seq b.seq (ap (λ (r : RingId). r.seq) e))
    (eq-eqb a.rep b.rep (ap (λ (r : RingId). r.rep) e))

-- names that are not equal are of two rings
pub other_ring : (a ring : RingId) → (a ≡ ring → ⊥) → same_ring a ring ≡ false
other_ring a ring n = false_from_ne_true (same_ring a ring) (λ e. n (ring_same a ring e))

-- a ring of a lower number is another ring
pub lower_other : (a b : RingId) → a.seq < b.seq → same_ring a b ≡ false
lower_other a b l = ap (λ t. t && (a.rep == b.rep)) (ne_eqb a.seq b.seq (λ e. omega (arith, l, e)))

-- a ring of a higher number is another ring
pub higher_other : (a b : RingId) → b.seq < a.seq → same_ring a b ≡ false
higher_other a b l = ap (λ t. t && (a.rep == b.rep)) (ne_eqb a.seq b.seq (λ e. omega (arith, l, e)))
