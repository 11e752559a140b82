-- The transitional members, collected member by member.
use Rattle.std.proofs.Common.{◌≡◌, ℕ, zero, suc, ◌+◌, ◌-◌, ◌*◌, ◌^◌, ◌<◌, ◌≤◌, true, false, List, [], ◌∷◌, refl, ap, ◌∙◌, sym, subst, inl, inr, arith}
use Rattle.std.specs.Prelude.{Contains, if◌then◌else◌, ◌↔◌, ◌⊎◌, slice_index_or}
use Rattle.std.specs.Int.{bit_at}
use Rattle.std.specs.List.Sorted.{IsStrictlyIncreasing}
use Rattle.std.proofs.lemmas.Bool.{cond-true, cond-false}
use Rattle.std.proofs.lemmas.Nat.{or_disjoint}
use Rattle.std.proofs.lemmas.Nat.Bits.{bit_at-lt, and_pow}
use Rattle.std.proofs.lemmas.List.Kept.{AllPairs-from_increasing}
use Rattle.ring_base.specs.Processors.{IsProc, IsMember, only, union, elements}
use Rattle.ring_base.specs.Elements.{elements_members, IsStrictlyIncreasing-elements}
use Rattle.ring_base.specs.Rings.{same_ring}
use Rattle.ring_base.specs.declared.ring_id.RingId.{RingId}
use Rattle.ring_commit.specs.Tokens.{CommitEntry}
use Rattle.ring_recover.specs.Plans.{transitional_members_among}

-- the members collected and those still to come are all, and no collected one is still to come
pub record IsGathered (old : RingId) (members : List ℕ) (entries : List CommitEntry) (transitional_members : ℕ) (left : List ℕ) (rest : List CommitEntry) : Type 0 where
  pub sum : transitional_members_among old members entries ≡ transitional_members + transitional_members_among old left rest
  pub apart : (i : ℕ) → IsMember transitional_members i → Contains left i → ⊥

-- a member that was just read adds to the sum
pub union_apart : (transitional_members m : ℕ) → 1 ≤ m → (IsMember transitional_members m → ⊥) → union transitional_members (only m) ≡ transitional_members + only m
union_apart transitional_members m some none =
    let b = bit_at-lt transitional_members (m - 1) in
    let clear : bit_at transitional_members (m - 1) ≡ 0 = elim (cases_zero (bit_at transitional_members (m - 1)) b) [ inl z ↦ z | inr o ↦ absurd (none (some, o)) ] in
    or_disjoint transitional_members (only m) (and_pow transitional_members (m - 1) ∙ ap (λ k. k * 2 ^ (m - 1)) clear ∙ (omega arith))
  where
    cases_zero : (k : ℕ) → k < 2 → (k ≡ 0) ⊎ (k ≡ 1)
    cases_zero zero l = inl refl
    cases_zero (suc k) l = inr (omega arith)

contains_first : (m : ℕ) (ms : List ℕ) → Contains (m ∷ ms) m
contains_first m ms = (0, omega arith, refl)

contains_more : (m i : ℕ) (ms : List ℕ) → Contains ms i → Contains (m ∷ ms) i
contains_more m i ms c = (suc c.0, omega (arith, c.1), c.2)

-- of ascending numbers the first doesn't occur again
first_once : (m : ℕ) (ms : List ℕ) → IsStrictlyIncreasing (m ∷ ms) → Contains ms m → ⊥
first_once m ms up c =
    let l : m < slice_index_or (m ∷ ms) (suc c.0) m = AllPairs-from_increasing (m ∷ ms) up 0 (suc c.0) m (omega arith) (omega (arith, c.1)) in
    let e : slice_index_or ms c.0 m ≡ m = c.2 in
    omega arith

module _ (old : RingId) (members : List ℕ) (entries : List CommitEntry) (transitional_members : ℕ) (left : ℕ) (m more : ℕ) (e : CommitEntry)
    (rest : List CommitEntry) (step : elements left ≡ m ∷ elements more) where
  proc : IsProc m
  proc = ((elements_members left m).0 (subst (λ (xs : List ℕ). Contains xs m) (sym step) (contains_first m (elements more)))).0

  up : IsStrictlyIncreasing (m ∷ elements more)
  up = subst IsStrictlyIncreasing step (IsStrictlyIncreasing-elements left)

  -- a member that comes from the old ring is added
  pub gathered_mate : (after : ℕ) → after ≡ union transitional_members (only m) → ((i : ℕ) → IsMember after i ↔ (IsMember transitional_members i ⊎ (i ≡ m))) → same_ring e.old old ≡ true
      → IsGathered old members entries transitional_members (elements left) (e ∷ rest) → IsGathered old members entries after (elements more) rest
  gathered_mate after value are h g =
      let not_yet : IsMember transitional_members m → ⊥ = λ k. g.apart m k (subst (λ (xs : List ℕ). Contains xs m) (sym step) (contains_first m (elements more))) in
      let plus : after ≡ transitional_members + only m = value ∙ union_apart transitional_members m proc.0 not_yet in
      let all : transitional_members_among old members entries ≡ transitional_members + transitional_members_among old (m ∷ elements more) (e ∷ rest) = g.sum
      ∙ ap (λ (xs : List ℕ). transitional_members + transitional_members_among old xs (e ∷ rest)) step in
      let this : (if same_ring e.old old then only m else 0) ≡ only m = cond-true (same_ring e.old old) (only m) 0 h in
      record {
        sum = omega arith;
        apart = λ i k c. elim ((are i).0 k) [
          | inl earlier ↦ g.apart i earlier (subst (λ (xs : List ℕ). Contains xs i) (sym step) (contains_more m i (elements more) c))
          | inr same ↦ first_once m (elements more) up (subst (λ (n : ℕ). Contains (elements more) n) same c)
        ];
      }

  -- any other member is skipped
  pub gathered_other : same_ring e.old old ≡ false → IsGathered old members entries transitional_members (elements left) (e ∷ rest)
      → IsGathered old members entries transitional_members (elements more) rest
  gathered_other h g =
      let all : transitional_members_among old members entries ≡ transitional_members + transitional_members_among old (m ∷ elements more) (e ∷ rest) = g.sum
      ∙ ap (λ (xs : List ℕ). transitional_members + transitional_members_among old xs (e ∷ rest)) step in
      let this : (if same_ring e.old old then only m else 0) ≡ 0 = cond-false (same_ring e.old old) (only m) 0 h in
      record {
        sum = omega arith;
        apart = λ i k c. g.apart i k (subst (λ (xs : List ℕ). Contains xs i) (sym step) (contains_more m i (elements more) c));
      }

pub gathered_all : (old : RingId) (members : List ℕ) (entries : List CommitEntry) (transitional_members : ℕ) (left : List ℕ)
    → IsGathered old members entries transitional_members left [] → transitional_members ≡ transitional_members_among old members entries
gathered_all old members entries transitional_members [] g = (let s = g.sum in omega arith)
gathered_all old members entries transitional_members (i ∷ left) g = (let s = g.sum in omega arith)
