-- A duration is over exactly where the time has reached its end.
use Rattle.std.proofs.Common.{◌≡◌, ℕ, ◌+◌, ◌-◌, ◌≤◌, nat_le, arith}
use Rattle.std.proofs.lemmas.Bool.Decides.{nat_tests}

pub is_over : (beginning period now : ℕ) → beginning ≤ now → nat_le period (now - beginning) ≡ nat_le (beginning + period) now
is_over beginning period now past = grind (arith, nat_tests)
