-- The seats of a gauge.
-- Rules: The book and the threads 19, 33 and 34
use Rattle.std.specs.Prelude.{ℕ, suc, ◌≡◌, ◌<◌, true, false, List, [], Option, Some, None, MatchOption, slice_get, nat_lt, if◌then◌else◌}
use Rattle.atomic_table.specs.Seated.{TableId}
use Rattle.atomic_table.specs.declared.shared.Seat.{Seat as TableSeat}
use Rattle.ring_seat.specs.Clocks.{new_clock}
use Rattle.ring_seat.specs.declared.turn_clock.TurnClock.{TurnClock}
use Rattle.ring_seat.specs.declared.gauge_rule.GaugeView.{GaugeView}

-- A seat as contracts see it: its gauge, its node, the lengths published on it, the words that it saw, newest first,
-- and its clock.
pub record SeatView : Type 0 where
  pub gauge : TableId
  pub node : Option ℕ
  pub published : List ℕ
  pub seen : List (ℕ × ℕ)
  pub clock : TurnClock

-- The table's seat is this node's own, whose word is its number less one, or no node's own.
abbrev pub IsSeated : Option ℕ → TableSeat ℕ GaugeView → Type 0
IsSeated None s = s.me.0.is_own_seat ≡ false
IsSeated (Some node) s = (s.me.0.is_own_seat ≡ true) × (node ≡ suc s.me.0.word) × (s.me.0.word < s.table_id.words)

-- the seat is at this gauge
abbrev pub IsAt : TableId → SeatView → Type 0
IsAt gauge s = s.gauge ≡ gauge

-- the seat is at this gauge and is a node's own
abbrev pub IsOwn : TableId → SeatView → Type 0
IsOwn gauge s = (s.gauge ≡ gauge) × MatchOption s.node ⊥ (λ node. Unit {0})

-- the node of the seat at this index, if the seats of `nodes` nodes come first, then those of none
abbrev pub node_at : ℕ → ℕ → Option ℕ
node_at nodes i = if nat_lt i nodes then Some (suc i) else None

-- a new seat: nothing was published on it or seen from it
abbrev pub new_seat : TableId → Option ℕ → SeatView
new_seat gauge node = record { gauge = gauge; node = node; published = []; seen = []; clock = new_clock }

-- The seats are new: those of `nodes` nodes, ascending, then seats of none.
abbrev pub AreNew : TableId → ℕ → List SeatView → Type 0
AreNew gauge nodes seats = (i : ℕ) (s : SeatView) → slice_get seats i ≡ Some s → s ≡ new_seat gauge (node_at nodes i)
