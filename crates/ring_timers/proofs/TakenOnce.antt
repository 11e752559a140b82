-- Each timeout that is due at a time is taken once at that time, in order.
use Rattle.std.proofs.Common.{◌≡◌, ℕ, ◌+◌, ◌≤◌, max, nat_le, Bool, true, false, if◌then◌else◌, filter, find, Option, refl, arith}
use Rattle.std.proofs.lemmas.Bool.Decides.{nat_tests}
use Rattle.std.specs.List.{cons_option}
use Rattle.ring_base.specs.declared.timeout_kind.Kind.{Kind}
use Rattle.ring_base.specs.declared.timeout_kind.Kind.TheVariants.{Join, Retransmit, Consensus, Loss}
use Rattle.ring_timers.specs.declared.periods.Periods.{Periods}
use Rattle.ring_timers.specs.Periods.{period_of}
use Rattle.ring_timers.specs.Timers.{TimersView, beginning_of, is_due, kinds_in_order, due_timeouts, first_due}
use Rattle.ring_timers.specs.TimerEvents.{timeout_at, is_of_kind, timers_after}
use Rattle.ring_timers.proofs.Beginnings.{beginning_of-timers_after}

-- the test that these four tests make of a kind
abbrev chosen : Bool → Bool → Bool → Bool → Kind → Bool
chosen a b c d Join = a
chosen a b c d Retransmit = b
chosen a b c d Consensus = c
chosen a b c d Loss = d

-- The first kind that passes its test is taken. Those that pass afterwards, when it alone no longer does, are the others.
first_taken : (a b c d a' b' c' d' : Bool) (taken : Option Kind) → taken ≡ find (chosen a b c d) kinds_in_order
    → a' ≡ (if is_of_kind taken Join then false else a) → b' ≡ (if is_of_kind taken Retransmit then false else b)
    → c' ≡ (if is_of_kind taken Consensus then false else c) → d' ≡ (if is_of_kind taken Loss then false else d)
    → filter (chosen a b c d) kinds_in_order ≡ cons_option taken (filter (chosen a' b' c' d') kinds_in_order)
first_taken true b c d a' b' c' d' taken is join retransmit consensus loss = rw (join, retransmit, consensus, loss, is) refl
first_taken false true c d a' b' c' d' taken is join retransmit consensus loss = rw (join, retransmit, consensus, loss, is) refl
first_taken false false true d a' b' c' d' taken is join retransmit consensus loss = rw (join, retransmit, consensus, loss, is) refl
first_taken false false false true a' b' c' d' taken is join retransmit consensus loss = rw (join, retransmit, consensus, loss, is) refl
first_taken false false false false a' b' c' d' taken is join retransmit consensus loss = rw (join, retransmit, consensus, loss, is) refl

-- each period is positive
positive : (periods : Periods) (kind : Kind) → 1 ≤ period_of periods kind
positive periods Join = periods.positive.0
positive periods Retransmit = periods.positive.1
positive periods Consensus = periods.positive.2
positive periods Loss = periods.positive.3

-- At the time that counts, a timeout that begins anew isn't due, and any other is due if it was.
due_again : (begins : Bool) (latest now beginning since period : ℕ) → 1 ≤ period → since ≡ (if begins then max latest now else beginning)
    → nat_le (since + period) (max (max latest now) now) ≡ (if begins then false else nat_le (beginning + period) (max latest now))
due_again true latest now beginning since period positive is = grind (arith, nat_tests)
due_again false latest now beginning since period positive is = grind (arith, nat_tests)

pub is_due-timers_after : (timers : TimersView) (now : ℕ) (taken : Option Kind) (kind : Kind)
    → is_due (timers_after timers (timeout_at now taken)) now kind ≡ (if is_of_kind taken kind then false else is_due timers now kind)
is_due-timers_after timers now taken kind =
    due_again (is_of_kind taken kind) timers.time now (beginning_of timers kind) (beginning_of (timers_after timers (timeout_at now taken)) kind) (period_of timers.periods kind)
    (positive timers.periods kind) (beginning_of-timers_after timers (timeout_at now taken) kind)

pub taken_once : (timers : TimersView) (now : ℕ)
    → due_timeouts timers now ≡ cons_option (first_due timers now) (due_timeouts (timers_after timers (timeout_at now (first_due timers now))) now)
taken_once timers now =
    let after : Kind → Bool = is_due (timers_after timers (timeout_at now (first_due timers now))) now in
    first_taken (is_due timers now Join) (is_due timers now Retransmit) (is_due timers now Consensus) (is_due timers now Loss)
    (after Join) (after Retransmit) (after Consensus) (after Loss) (first_due timers now) refl
    (is_due-timers_after timers now (first_due timers now) Join) (is_due-timers_after timers now (first_due timers now) Retransmit)
    (is_due-timers_after timers now (first_due timers now) Consensus) (is_due-timers_after timers now (first_due timers now) Loss)
