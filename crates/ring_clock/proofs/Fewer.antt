-- A timeout that is taken, and the step on it, leave fewer timeouts due at that time.
use Rattle.std.proofs.Common.{◌≡◌, ℕ, ◌+◌, ◌<◌, ◌≤◌, max, nat_le, Bool, true, false, if◌then◌else◌, filter, List, [], ◌∷◌, length, Option, Some, refl, ap, subst, ◌∙◌, arith}
use Rattle.std.proofs.lemmas.Bool.Decides.{nat_tests}
use Rattle.std.specs.List.{cons_option}
use Rattle.ring_base.specs.declared.timeout_kind.Kind.{Kind}
use Rattle.ring_base.specs.declared.timeout_kind.Kind.TheVariants.{Join, Retransmit, Consensus, Loss}
use Rattle.ring_timers.specs.declared.periods.Periods.{Periods}
use Rattle.ring_timers.specs.declared.step_outcome.StepOutcome.{StepOutcome}
use Rattle.ring_timers.specs.Periods.{period_of}
use Rattle.ring_timers.specs.Timers.{TimersView, beginning_of, is_due, kinds_in_order, due_timeouts, first_due}
use Rattle.ring_timers.specs.TimerEvents.{timeout_at, step_at, begins_anew, timers_after}
use Rattle.ring_timers.proofs.Beginnings.{beginning_of-timers_after}
use Rattle.ring_timers.proofs.TakenOnce.{taken_once}
use Rattle.ring_clock.specs.Clocks.{ClockView, timers_at, first_due_at, clock_after_timeout, clock_after_step}

-- fewer elements pass a test than one that it implies
chosen_by : {X : Type 0} (x : X) (a b : Bool) (xs ys : List X) → (a ≡ true → b ≡ true) → length xs ≤ length ys
    → length (if a then x ∷ xs else xs) ≤ length (if b then x ∷ ys else ys)
chosen_by x true true xs ys h less = omega (arith, less)
chosen_by x true false xs ys h less = absurd (cc (h refl))
chosen_by x false true xs ys h less = omega (arith, less)
chosen_by x false false xs ys h less = less

chosen_less : {X : Type 0} (p q : X → Bool) (xs : List X) → ((x : X) → p x ≡ true → q x ≡ true) → length (filter p xs) ≤ length (filter q xs)
chosen_less p q [] h = omega arith
chosen_less p q (x ∷ xs) h = chosen_by x (p x) (q x) (filter p xs) (filter q xs) (h x) (chosen_less p q xs h)

positive : (periods : Periods) (kind : Kind) → 1 ≤ period_of periods kind
positive periods Join = periods.positive.0
positive periods Retransmit = periods.positive.1
positive periods Consensus = periods.positive.2
positive periods Loss = periods.positive.3

-- a timeout that begins anew at the time that counts isn't due at it
still_due : (begins : Bool) (latest now beginning since period : ℕ) → 1 ≤ period → now ≤ latest → since ≡ (if begins then max latest 0 else beginning)
    → nat_le (since + period) (max (max latest 0) now) ≡ true → nat_le (beginning + period) (max latest now) ≡ true
still_due true latest now beginning since period positive past is due = grind (arith, nat_tests)
still_due false latest now beginning since period positive past is due = grind (arith, nat_tests)

due_before : (timers : TimersView) (now : ℕ) (outcome : StepOutcome) → now ≤ timers.time → (kind : Kind)
    → is_due (timers_after timers (step_at 0 outcome)) now kind ≡ true → is_due timers now kind ≡ true
due_before timers now outcome past kind =
    let event = step_at 0 outcome in
    still_due (begins_anew event.action kind) timers.time now (beginning_of timers kind) (beginning_of (timers_after timers event) kind)
    (period_of timers.periods kind) (positive timers.periods kind) past (beginning_of-timers_after timers event kind)

-- the number of timeouts that are due
abbrev pub due_count : ClockView → ℕ → ℕ
due_count clock now = length (due_timeouts (timers_at clock now) now)

-- the timeout that is taken is one of those that are due
taken_counts : (timers : TimersView) (now : ℕ) (kind : Kind) → first_due timers now ≡ Some kind
    → length (due_timeouts timers now) ≡ length (kind ∷ due_timeouts (timers_after timers (timeout_at now (Some kind))) now)
taken_counts timers now kind first = ap length (rw first at (taken_once timers now))

fewer_timers : (timers : TimersView) (now : ℕ) (kind : Kind) (outcome : StepOutcome) → first_due timers now ≡ Some kind
    → length (due_timeouts (timers_after (timers_after timers (timeout_at now (Some kind))) (step_at 0 outcome)) now) < length (due_timeouts timers now)
fewer_timers timers now kind outcome first =
    let taken = timers_after timers (timeout_at now (Some kind)) in
    let past : now ≤ taken.time = omega arith in
    let less = chosen_less (is_due (timers_after taken (step_at 0 outcome)) now) (is_due taken now) kinds_in_order (due_before taken now outcome past) in
    omega (arith, less, taken_counts timers now kind first)

-- a timeout was taken
pub fewer_taken : (clock : ClockView) (now : ℕ) (kind : Kind) → first_due_at clock now ≡ Some kind
    → due_count (clock_after_timeout clock now (Some kind)) now < due_count clock now
fewer_taken clock now kind first = omega (arith, taken_counts (timers_at clock now) now kind first)

-- a timeout was taken, and the step on it noted
pub fewer_due : (clock : ClockView) (now : ℕ) (kind : Kind) (outcome : StepOutcome) → first_due_at clock now ≡ Some kind
    → due_count (clock_after_step (clock_after_timeout clock now (Some kind)) outcome) now < due_count clock now
fewer_due clock now kind outcome first = fewer_timers (timers_at clock now) now kind outcome first
