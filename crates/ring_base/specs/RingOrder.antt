-- Laws of the order of rings and of last primaries: it is irreflexive, transitive and total, and none is below every
-- ring.
-- Rules: Rings and states 1
use Rattle.std.proofs.Common.{◌≡◌, ℕ, ◌⊎◌, ◌<◌, Option, Some, None, refl, inl, inr, arith, ap, sym}
use Rattle.std.specs.Prelude.{◌↔◌}
use Rattle.std.specs.Cmp.{IsTotalOrder}
use Rattle.std.specs.declared.cmp.Ordering.{Ordering}
use Rattle.std.specs.declared.cmp.Ordering.TheVariants.{Less, Equal, Greater}
use Rattle.std.specs.Ordering.{nat_cmp, ordering_then}
use Rattle.std.proofs.lemmas.Cmp.{nat_cmp_total, on_total, then_total, tied_itself, ranked}
use Rattle.std.proofs.lemmas.Bool.{cases_order, lt-ltb, le-ltb, eq-eqb}
use Rattle.std.specs.Cmp.Lexicographic.{options_total}
use Rattle.ring_base.specs.declared.ring_id.RingId.{RingId}
use Rattle.ring_base.specs.Rings.{ring_cmp, primary_cmp, IsBelow, IsPrimaryBelow}

-- the comparison of rings is a total order
pub ring_cmp_total : IsTotalOrder ring_cmp
ring_cmp_total = then_total (on_total (λ (r : RingId). r.seq) nat_cmp_total) (on_total (λ (r : RingId). r.rep) nat_cmp_total)

-- the comparison of last primaries is a total order
pub primary_cmp_total : IsTotalOrder primary_cmp
primary_cmp_total = options_total ring_cmp_total

-- no ring is below itself
pub below_irrefl : (a : RingId) → IsBelow a a → ⊥
below_irrefl a h = let tied = tied_itself ring_cmp_total a in cc

-- the order of rings is transitive
pub below_trans : (a b c : RingId) → IsBelow a b → IsBelow b c → IsBelow a c
below_trans a b c p q = ring_cmp_total.trans a b c p q

-- ---- the order in numbers

less_of : (m n : ℕ) → nat_cmp m n ≡ Less → m < n
less_of m n h = ranked m n Less (sym h)

equal_of : (m n : ℕ) → nat_cmp m n ≡ Equal → m ≡ n
equal_of m n h = ranked m n Equal (sym h)

of_less : (m n : ℕ) → m < n → nat_cmp m n ≡ Less
of_less m n lt = rw (lt-ltb m n lt) refl

of_equal : (m n : ℕ) → m ≡ n → nat_cmp m n ≡ Equal
of_equal m n e = rw (le-ltb m n (omega arith), eq-eqb m n e) refl

then_Less : (r s : Ordering) → ordering_then r s ≡ Less → (r ≡ Less) ⊎ ((r ≡ Equal) × (s ≡ Less))
then_Less Less s h = inl refl
then_Less Equal s h = inr (refl, h)
then_Less Greater s h = absurd cc

one_name : (a b : RingId) → a.seq ≡ b.seq → a.rep ≡ b.rep → a ≡ b
one_name a b seqs reps = λ i. record { seq = seqs i; rep = reps i }

-- a ring is below another exactly if its number is smaller, or the numbers are equal and its representative is smaller
pub below_numbers : (a b : RingId) → IsBelow a b ↔ ((a.seq < b.seq) ⊎ ((a.seq ≡ b.seq) × (a.rep < b.rep)))
below_numbers a b = (
  λ h. elim (then_Less (nat_cmp a.seq b.seq) (nat_cmp a.rep b.rep) h) [
    | inl less ↦ inl (less_of a.seq b.seq less)
    | inr then ↦ inr (equal_of a.seq b.seq then.0, less_of a.rep b.rep then.1)
  ],
  λ h. elim h [
    | inl less ↦ rw (of_less a.seq b.seq less) refl
    | inr then ↦ rw (of_equal a.seq b.seq then.0) (of_less a.rep b.rep then.1)
  ],
)

-- ---- the laws

-- any two rings are equal, or one is below the other
pub below_total : (a b : RingId) → IsBelow a b ⊎ ((a ≡ b) ⊎ IsBelow b a)
below_total a b =
    elim (cases_order a.seq b.seq) [
      | inl seqs ↦ elim (cases_order a.rep b.rep) [
        | inl reps ↦ inr (inl (one_name a b seqs reps))
        | inr reps ↦ elim reps [
          | inl less ↦ inl ((below_numbers a b).1 (inr (seqs, less)))
          | inr more ↦ inr (inr ((below_numbers b a).1 (inr (sym seqs, more))))
        ]
      ]
      | inr seqs ↦ elim seqs [
        | inl less ↦ inl ((below_numbers a b).1 (inl less))
        | inr more ↦ inr (inr ((below_numbers b a).1 (inl more)))
      ]
    ]

-- no last primary is below itself
pub primary_below_irrefl : (a : Option RingId) → IsPrimaryBelow a a → ⊥
primary_below_irrefl a h = let tied = tied_itself primary_cmp_total a in cc

-- the order of last primaries is transitive
pub primary_below_trans : (a b c : Option RingId) → IsPrimaryBelow a b → IsPrimaryBelow b c → IsPrimaryBelow a c
primary_below_trans a b c p q = primary_cmp_total.trans a b c p q

-- any two last primaries are equal, or one is below the other
pub primary_below_total : (a b : Option RingId) → IsPrimaryBelow a b ⊎ ((a ≡ b) ⊎ IsPrimaryBelow b a)
primary_below_total None None = inr (inl refl)
primary_below_total None (Some b) = inl refl
primary_below_total (Some a) None = inr (inr refl)
primary_below_total (Some a) (Some b) =
    elim (below_total a b) [
      | inl below ↦ inl below
      | inr rest ↦ elim rest [
        | inl same ↦ inr (inl (ap Some same))
        | inr above ↦ inr (inr above)
      ]
    ]
