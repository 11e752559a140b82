-- Those that stay so far, then those of the rest that stay.
use Rattle.std.proofs.Common.{◌≡◌, ℕ, ◌≤◌, Bool, ◌++◌, length, drop}
use Rattle.ring_token.specs.Visits.{requests_left as stays_of}
use Rattle.ring_token.proofs.requests.requests_left.Given as goal

abbrev pub invariant-loop-number : goal.invariant-loop-number
invariant-loop-number g l =
    (length l.remaining_requests ≤ l.number-index)
    × ((held : ℕ → Bool) → ((n : ℕ) (r : Bool) → goal.F-post g l.holds n r → r ≡ held n)
    → l.remaining_requests ++ stays_of l.mark held (drop l.number-index l.numbers) ≡ stays_of l.mark held l.requests)
