-- The clock of a node: its timers, from the first time that is passed.
-- Rules: A node with a clock 9
use Rattle.std.specs.Prelude.{ℕ, Option, Some, None}
use Rattle.std.specs.Option.{option_map}
use Rattle.ring_base.specs.declared.timeout_kind.Kind.{Kind}
use Rattle.ring_timers.specs.declared.periods.Periods.{Periods}
use Rattle.ring_timers.specs.declared.step_outcome.StepOutcome.{StepOutcome}
use Rattle.ring_timers.specs.Timers.{TimersView, timers_opened, first_due, next_time}
use Rattle.ring_timers.specs.TimerEvents.{timeout_at, step_at, timers_after}

-- the periods and the timers; None before the first time
pub record ClockView : Type 0 where
  pub periods : Periods
  pub timers : Option TimersView

-- a clock to which no time has been passed
abbrev pub clock_opening : Periods → ClockView
clock_opening periods = record { periods = periods; timers = None }

-- the timers, opened at this time if they are not yet
abbrev pub timers_or_opened : Option TimersView → Periods → ℕ → TimersView
timers_or_opened None periods now = timers_opened periods now
timers_or_opened (Some timers) periods now = timers

-- the timers of a clock to which this time is passed
abbrev pub timers_at : ClockView → ℕ → TimersView
timers_at clock now = timers_or_opened clock.timers clock.periods now

-- the first timeout that is due at this time
abbrev pub first_due_at : ClockView → ℕ → Option Kind
first_due_at clock now = first_due (timers_at clock now) now

-- the clock after this time was passed and this timeout taken, if there is one
abbrev pub clock_after_timeout : ClockView → ℕ → Option Kind → ClockView
clock_after_timeout clock now taken = record clock { timers = Some (timers_after (timers_at clock now) (timeout_at now taken)) }

-- the timers after a step, which passes no later time than the latest one
abbrev pub timers_after_step : StepOutcome → TimersView → TimersView
timers_after_step outcome timers = timers_after timers (step_at 0 outcome)

-- the clock after a step
abbrev pub clock_after_step : ClockView → StepOutcome → ClockView
clock_after_step clock outcome = record clock { timers = option_map (timers_after_step outcome) clock.timers }

-- the earliest time at which a timeout is due; None before the first time
abbrev pub next_time_of : ClockView → Option ℕ
next_time_of clock = option_map next_time clock.timers
