-- The timers of a node: when each timeout is due.
-- Rules: A node with a clock 2 to 7
use Rattle.std.specs.Prelude.{ℕ, ◌+◌, ◌-◌, ◌^◌, min, max, nat_le, Bool, List, [], ◌∷◌, filter, find, Option}
use Rattle.ring_base.specs.declared.timeout_kind.Kind.{Kind}
use Rattle.ring_base.specs.declared.timeout_kind.Kind.TheVariants.{Join, Retransmit, Consensus, Loss}
use Rattle.ring_timers.specs.declared.periods.Periods.{Periods}
use Rattle.ring_timers.specs.Periods.{period_of}

-- Timers as contracts see them: the periods, the latest time passed, and the time at which each timeout last began to
-- count. Periods and times are numbers of milliseconds.
pub record TimersView : Type 0 where
  pub periods : Periods
  pub time : ℕ
  pub join : ℕ
  pub retransmit : ℕ
  pub consensus : ℕ
  pub loss : ℕ

-- the timers at the opening: all four timeouts begin to count
abbrev pub timers_opened : Periods → ℕ → TimersView
timers_opened periods now = record { periods = periods; time = now; join = now; retransmit = now; consensus = now; loss = now }

-- the time at which a timeout last began to count
abbrev pub beginning_of : TimersView → Kind → ℕ
beginning_of timers Join = timers.join
beginning_of timers Retransmit = timers.retransmit
beginning_of timers Consensus = timers.consensus
beginning_of timers Loss = timers.loss

-- the time from which on a timeout is due
abbrev pub due_at : TimersView → Kind → ℕ
due_at timers kind = beginning_of timers kind + period_of timers.periods kind

-- the present time once `now` is passed: never before the latest one passed
abbrev pub time_at : TimersView → ℕ → ℕ
time_at timers now = max timers.time now

-- whether a timeout is due once `now` is passed
abbrev pub is_due : TimersView → ℕ → Kind → Bool
is_due timers now kind = nat_le (due_at timers kind) (time_at timers now)

-- the order in which timeouts that are due are taken
abbrev pub kinds_in_order : List Kind
kinds_in_order = Join ∷ Retransmit ∷ Consensus ∷ Loss ∷ []

-- the timeouts that are due once `now` is passed, in order
abbrev pub due_timeouts : TimersView → ℕ → List Kind
due_timeouts timers now = filter (is_due timers now) kinds_in_order

-- the first of them, if one is due
abbrev pub first_due : TimersView → ℕ → Option Kind
first_due timers now = find (is_due timers now) kinds_in_order

-- the earliest time from which on a timeout is due, at most the greatest u64
abbrev pub next_time : TimersView → ℕ
next_time timers = min (min (due_at timers Join) (due_at timers Retransmit)) (min (min (due_at timers Consensus) (due_at timers Loss)) (2 ^ 64 - 1))
