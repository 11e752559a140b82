-- The events at a node's timers, and the timeouts that begin again at each.
-- Rules: A node with a clock 2, 4 and 5
use Rattle.std.specs.Prelude.{ℕ, ◌≡◌, ◌⊎◌, max, ◌||◌, ◌&&◌, not, Bool, true, false, if◌then◌else◌, List, [], ◌∷◌, ◌++◌, All, Option, Some}
use Rattle.ring_base.specs.declared.timeout_kind.Kind.{Kind}
use Rattle.ring_base.specs.declared.timeout_kind.Kind.TheVariants.{Join, Retransmit, Consensus, Loss}
use Rattle.ring_timers.specs.declared.step_outcome.StepOutcome.{StepOutcome}
use Rattle.ring_timers.specs.Timers.{TimersView, beginning_of, time_at}

-- What happens: a caller asks for the next timeout, and takes the one that is due, if there is one; or the node does a step
-- of this outcome.
pub data TimerAction : Type 0 where
  Timeout : (taken : Option Kind) → TimerAction
  Step : (outcome : StepOutcome) → TimerAction

-- an event: what happens, and the time that is passed with it
pub record TimerEvent : Type 0 where
  pub time : ℕ
  pub action : TimerAction

-- the caller asks at this time and takes this timeout, if there is one
abbrev pub timeout_at : ℕ → Option Kind → TimerEvent
timeout_at now taken = record { time = now; action = Timeout taken }

-- a step of this outcome at this time
abbrev pub step_at : ℕ → StepOutcome → TimerEvent
step_at now outcome = record { time = now; action = Step outcome }

-- whether the timeout is there and is of this kind
abbrev pub is_of_kind : Option Kind → Kind → Bool
is_of_kind (Some Join) Join = true
is_of_kind (Some Retransmit) Retransmit = true
is_of_kind (Some Consensus) Consensus = true
is_of_kind (Some Loss) Loss = true
is_of_kind timeout kind = false

-- whether the node sent a join at an input that is no join timeout
abbrev pub has_unprompted_join : StepOutcome → Bool
has_unprompted_join outcome = outcome.sent_join && not (is_of_kind outcome.timeout Join)

-- whether a timeout begins again if this happens
abbrev pub begins_anew : TimerAction → Kind → Bool
begins_anew (Timeout taken) kind = is_of_kind taken kind
begins_anew (Step outcome) Join = false
begins_anew (Step outcome) Retransmit = outcome.took_token
begins_anew (Step outcome) Consensus = outcome.took_token || has_unprompted_join outcome
begins_anew (Step outcome) Loss = outcome.took_token || has_unprompted_join outcome

-- the time at which a timeout last began to count, after an event
abbrev pub beginning_after : TimersView → TimerEvent → Kind → ℕ
beginning_after timers event kind = if begins_anew event.action kind then time_at timers event.time else beginning_of timers kind

-- the timers after an event
abbrev pub timers_after : TimersView → TimerEvent → TimersView
timers_after timers event = record {
  periods = timers.periods;
  time = time_at timers event.time;
  join = beginning_after timers event Join;
  retransmit = beginning_after timers event Retransmit;
  consensus = beginning_after timers event Consensus;
  loss = beginning_after timers event Loss;
}

-- the timers after these events, oldest first
abbrev pub timers_after_all : TimersView → List TimerEvent → TimersView
timers_after_all timers [] = timers
timers_after_all timers (event ∷ events) = timers_after_all (timers_after timers event) events

-- the latest of these times
abbrev pub latest_time : ℕ → List TimerEvent → ℕ
latest_time opening [] = opening
latest_time opening (event ∷ events) = latest_time (max opening event.time) events

-- the timeout begins again at none of these events
abbrev pub NeverBeginsAgain : List TimerEvent → Kind → Type 0
NeverBeginsAgain events kind = All (λ (event : TimerEvent). begins_anew event.action kind ≡ false) events

-- Among these events is one at which the timeout begins again, for the last time, and the number is the time of that
-- event: the latest one that was passed until then.
pub record BeginsLastAt (opening : ℕ) (events : List TimerEvent) (kind : Kind) (time : ℕ) : Type 0 where
  pub before : List TimerEvent
  pub event : TimerEvent
  pub after : List TimerEvent
  pub parts : before ++ event ∷ after ≡ events
  pub begins : begins_anew event.action kind ≡ true
  pub last : NeverBeginsAgain after kind
  pub at : time ≡ latest_time opening (before ++ event ∷ [])

-- A timeout has counted since this time: since the last event at which it began again, or since the opening if there is
-- none.
abbrev pub HasCountedSince : ℕ → List TimerEvent → Kind → ℕ → Type 0
HasCountedSince opening events kind time = BeginsLastAt opening events kind time ⊎ (NeverBeginsAgain events kind × (time ≡ opening))
