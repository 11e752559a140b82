use Rattle.std.proofs.Common.{ℕ, IfOk, IfSome, Option, subst, ap}
use Rattle.ring_base.specs.declared.timeout_kind.Kind.{Kind}
use Rattle.ring_seat.specs.Clocks.{clock_counted_down, due_timeout}
use Rattle.ring_seat.specs.Seats.{SeatView}
use Rattle.ring_seat.specs.declared.turn_clock.TurnClock.{TurnClock}
use Rattle.ring_host.specs.Gates.{HasPassed}
use Rattle.ring_host.specs.Turns.{IsTurnedAt}
use Rattle.ring_host.proofs.gated_turn.HostOf+Cell+O+K+Book+O+K+O+Alloc.gated_turn.Goals as goal

pub returns-clause-clock : goal.returns-clause-clock
returns-clause-clock g c =
    let turned : Option Kind → TurnClock → Type 0 = λ due clock.
    IfOk c.turn_at-turned.result
    (λ done. IsTurnedAt g.row.O-Alloc.Denot g.O.Object.sequential g.K.BookName.name.group due done clock c.turn_at-turned.new.seat.clock) in
    subst (λ (clock : TurnClock). turned (due_timeout (clock_counted_down c.args.seat.now.clock)) clock) (ap (λ (s : SeatView). s.clock) c.tick-due.ensures.seat)
    (subst (λ (due : Option Kind). turned due c.tick-due.new.self.clock) c.tick-due.ensures.due c.turn_at-turned.ensures.clock)

pub returns-clause-gate : goal.returns-clause-gate
returns-clause-gate g c =
    subst (λ (node : Option ℕ). IfOk c.turn_at-turned.result (λ done. IfSome done (λ _. HasPassed (g.G.Gate.has_reached c.args.gate.now) node)))
    (ap (λ (s : SeatView). s.node) c.tick-due.ensures.seat) c.turn_at-turned.ensures.gate
