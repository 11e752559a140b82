use Rattle.std.proofs.Common.{ℕ, ◌+◌, ◌<◌, ◌≤◌, sym, subst, inl, inr, arith}
use Rattle.std.proofs.Math.Nat.{eq-or-lt_of_le}
use Rattle.refusing_alloc.proofs.refuse_in_turn.Goals as goal

-- a fact that holds at each number below n and at n holds at each below n + 1
below-add-one : (P : ℕ → Type 0) (n : ℕ) → ((k : ℕ) → k < n → P k) → P n → (k : ℕ) → k < n + 1 → P k
below-add-one P n all last k below =
    let up_to : k ≤ n = omega arith in
    elim (eq-or-lt_of_le up_to) [ inl is ↦ subst P (sym is) last | inr less ↦ all k less ]

-- the call over this turn's allocator was refused
pub loop-passed_requests-preserved : goal.loop-passed_requests-preserved
loop-passed_requests-preserved g c =
    below-add-one _ c.loop-passed_requests.passed_requests c.loop-passed_requests.invariant (_, c.new-heap.ensures, c.in-Err-true.ensures)
