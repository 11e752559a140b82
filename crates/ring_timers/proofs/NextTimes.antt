-- Before the next time no timeout is due, and from it on one is.
use Rattle.std.proofs.Common.{◌≡◌, ℕ, ◌^◌, ◌-◌, ◌<◌, ◌≤◌, min, nat_le, false, cond, Option, Some, None, refl, arith}
use Rattle.std.proofs.lemmas.Bool.Decides.{nat_tests}
use Rattle.std.specs.Prelude.{IsSome}
use Rattle.ring_base.specs.declared.timeout_kind.Kind.{Kind}
use Rattle.ring_base.specs.declared.timeout_kind.Kind.TheVariants.{Join, Retransmit, Consensus, Loss}
use Rattle.ring_timers.specs.Timers.{TimersView, due_at, time_at, first_due, next_time}

-- the first of four kinds whose number is at most `time`
abbrev first_at_most : ℕ → ℕ → ℕ → ℕ → ℕ → Option Kind
first_at_most time a b c d = cond (nat_le a time) (Some Join) (cond (nat_le b time) (Some Retransmit) (cond (nat_le c time) (Some Consensus) (cond (nat_le d time) (Some Loss) None)))

none_below : (time a b c d limit : ℕ) → time < min (min a b) (min (min c d) limit) → first_at_most time a b c d ≡ None
none_below time a b c d limit before =
    let at_a : nat_le a time ≡ false = grind (arith, nat_tests) in
    let at_b : nat_le b time ≡ false = grind (arith, nat_tests) in
    let at_c : nat_le c time ≡ false = grind (arith, nat_tests) in
    let at_d : nat_le d time ≡ false = grind (arith, nat_tests) in
    rw (at_a, at_b, at_c, at_d) refl

some_from : (time a b c d limit : ℕ) → min (min a b) (min (min c d) limit) < limit → min (min a b) (min (min c d) limit) ≤ time → IsSome (first_at_most time a b c d)
some_from time a b c d limit below reached = grind (arith, nat_tests)

pub none_due_before : (timers : TimersView) (now : ℕ) → time_at timers now < next_time timers → first_due timers now ≡ None
none_due_before timers now before =
    none_below (time_at timers now) (due_at timers Join) (due_at timers Retransmit) (due_at timers Consensus) (due_at timers Loss) (2 ^ 64 - 1) before

pub one_due_from : (timers : TimersView) (now : ℕ) → next_time timers < 2 ^ 64 - 1 → next_time timers ≤ time_at timers now → IsSome (first_due timers now)
one_due_from timers now below reached =
    some_from (time_at timers now) (due_at timers Join) (due_at timers Retransmit) (due_at timers Consensus) (due_at timers Loss) (2 ^ 64 - 1) below reached
