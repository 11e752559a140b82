-- A worked example: timers with the default periods that open at 0.
-- Rules: A node with a clock 3 to 7
use Rattle.std.specs.Prelude.{true, false, [], ◌∷◌, Some, None}
use Rattle.ring_base.specs.declared.timeout_kind.Kind.TheVariants.{Join, Retransmit}
use Rattle.ring_timers.specs.Periods.{default_periods}
use Rattle.ring_timers.specs.Timers.{TimersView, timers_opened}
use Rattle.ring_timers.specs.TimerEvents.{timeout_at, step_at, timers_after, timers_after_all}

abbrev pub timers_at_0 : TimersView
timers_at_0 = timers_opened default_periods 0

-- the join timeout is taken, and the node sends its join
abbrev pub timers_at_10 : TimersView
timers_at_10 = timers_after_all timers_at_0 (timeout_at 10 (Some Join) ∷ step_at 10 (record { timeout = Some Join; took_token = false; sent_join = true }) ∷ [])

-- the join and the retransmit timeout are taken
abbrev pub timers_at_20 : TimersView
timers_at_20 = timers_after_all timers_at_10 (timeout_at 20 (Some Join) ∷ timeout_at 20 (Some Retransmit) ∷ timeout_at 20 None ∷ [])

-- the node takes a token
abbrev pub timers_at_25 : TimersView
timers_at_25 = timers_after timers_at_20 (step_at 25 (record { timeout = None; took_token = true; sent_join = false }))

-- the node hears a join, enters Gather and sends a join; the program brings an earlier time afterwards
abbrev pub timers_at_40 : TimersView
timers_at_40 = timers_after_all timers_at_25 (step_at 40 (record { timeout = None; took_token = false; sent_join = true }) ∷ timeout_at 26 None ∷ [])
