-- Strictly ascending lists of numbers.
use Rattle.std.proofs.Common.{◌≡◌, ℕ, zero, suc, ◌+◌, ◌<◌, ◌≤◌, Bool, true, List, [], ◌∷◌, length, arith, add-one, refl}
use Rattle.std.specs.Prelude.{nat_lt, nat_le, ◌&&◌, slice_index}
use Rattle.std.specs.List.{AllByRecursion}
use Rattle.std.specs.List.Sorted.{IsStrictlyIncreasing}
use Rattle.std.proofs.lemmas.Bool.{ltb-true, lt-ltb, leb-true, le-leb, and_parts}

-- whether the numbers ascend strictly and are all above `low` and at most `high`, as a test
abbrev pub is_ascending_within : ℕ → ℕ → List ℕ → Bool
is_ascending_within low high [] = true
is_ascending_within low high (x ∷ xs) = nat_lt low x && (nat_le x high && is_ascending_within x high xs)

-- the number is above `low` and at most `high`
abbrev pub IsAboveUpTo : ℕ → ℕ → ℕ → Type 0
IsAboveUpTo low high x = (low < x) × (x ≤ high)

from_lower : (a b high : ℕ) (xs : List ℕ) → a ≤ b → AllByRecursion (IsAboveUpTo b high) xs → AllByRecursion (IsAboveUpTo a high) xs
from_lower a b high [] le all = tt
from_lower a b high (x ∷ xs) le all = ((omega (arith, all.0.0), all.0.1), from_lower a b high xs le all.1)

-- numbers that pass the test are all above `low` and at most `high`
pub is_ascending_within-each : (low high : ℕ) (xs : List ℕ) → is_ascending_within low high xs ≡ true → AllByRecursion (IsAboveUpTo low high) xs
is_ascending_within-each low high [] h = tt
is_ascending_within-each low high (x ∷ xs) h =
    let a = and_parts _ _ h in
    let b = and_parts _ _ a.1 in
    let above = ltb-true low x a.0 in
    ((above, leb-true x high b.0), from_lower low x high xs (omega arith) (is_ascending_within-each x high xs b.1))

increasing : (low high : ℕ) (xs : List ℕ) → is_ascending_within low high xs ≡ true → IsStrictlyIncreasing (low ∷ xs)
increasing low high [] h k lt = absurd (omega arith)
increasing low high (x ∷ xs) h zero lt = ltb-true low x (and_parts _ _ h).0
increasing low high (x ∷ xs) h (suc k) lt =
    let below : k + 1 < length (x ∷ xs) = omega arith in
    let rest : is_ascending_within x high xs ≡ true = (and_parts _ _ (and_parts _ _ h).1).1 in
    let up : slice_index (x ∷ xs) k < slice_index (x ∷ xs) (k + 1) = increasing x high xs rest k below in
    rw add-one (rw add-one at up)

-- a strictly ascending list without its first element ascends strictly
pub IsStrictlyIncreasing-rest : (x : ℕ) (xs : List ℕ) → IsStrictlyIncreasing (x ∷ xs) → IsStrictlyIncreasing xs
IsStrictlyIncreasing-rest x xs h k lt = rw add-one (rw add-one at (h (suc k) (omega arith)))

-- numbers that pass the test ascend strictly
pub is_ascending_within-increasing : (low high : ℕ) (xs : List ℕ) → is_ascending_within low high xs ≡ true → IsStrictlyIncreasing xs
is_ascending_within-increasing low high xs h = IsStrictlyIncreasing-rest low xs (increasing low high xs h)

-- numbers that ascend strictly, all above `low` and at most `high`, pass the test
pub increasing-is_ascending_within : (low high : ℕ) (xs : List ℕ) → IsStrictlyIncreasing (low ∷ xs) → AllByRecursion (λ x. x ≤ high) xs → is_ascending_within low high xs ≡ true
increasing-is_ascending_within low high [] up all = refl
increasing-is_ascending_within low high (x ∷ xs) up all =
    let first : low < x = up zero (omega arith) in
    rw (lt-ltb low x first, le-leb x high all.0, increasing-is_ascending_within x high xs (IsStrictlyIncreasing-rest low (x ∷ xs) up) all.1) refl

-- strictly ascending numbers above 0 still ascend strictly with 0 before them
pub IsStrictlyIncreasing-from_zero : (high : ℕ) (xs : List ℕ) → IsStrictlyIncreasing xs → AllByRecursion (IsAboveUpTo 0 high) xs → IsStrictlyIncreasing (0 ∷ xs)
IsStrictlyIncreasing-from_zero high [] up all k lt = absurd (omega arith)
IsStrictlyIncreasing-from_zero high (x ∷ xs) up all zero lt = all.0.0
IsStrictlyIncreasing-from_zero high (x ∷ xs) up all (suc k) lt =
    let below : k + 1 < length (x ∷ xs) = omega arith in
    rw add-one (rw add-one at (up k below))

-- if all are at most `high`, all are below any limit above `high`
pub each_below : (low high limit : ℕ) (xs : List ℕ) → AllByRecursion (IsAboveUpTo low high) xs → high < limit → AllByRecursion (λ x. x < limit) xs
each_below low high limit [] all lt = tt
each_below low high limit (x ∷ xs) all lt = (omega (arith, all.0.1), each_below low high limit xs all.1 lt)

-- all are at most `high`
pub each_le : (low high : ℕ) (xs : List ℕ) → AllByRecursion (IsAboveUpTo low high) xs → AllByRecursion (λ x. x ≤ high) xs
each_le low high [] all = tt
each_le low high (x ∷ xs) all = (all.0.1, each_le low high xs all.1)
