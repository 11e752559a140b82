-- Seats taken off the end of a list.
use Rattle.std.proofs.Common.{◌≡◌, ◌≤◌, ℕ, ◌+◌, ◌<◌, List, [], length, take, drop, inl, inr, ap, sym, subst, ◌∙◌, arith}
use Rattle.std.proofs.Common.{length-drop}
use Rattle.std.proofs.lemmas.List.Elements.{All-take, All-drop}
use Rattle.ring_base.specs.declared.fault.Fault.{Fault}
use Rattle.ring_base.specs.declared.fault.Fault.TheVariants.{Memory}
use Rattle.ring_host_port.specs.Clients.{AreSeats, AreForAll, AreNotTaken}
use Rattle.ring_host_port.specs.Gauges.{TableId}
use Rattle.ring_seat.specs.Seats.{SeatView, IsAt}

-- The seats that stay are the host's.
pub first_seats : (gauge : TableId) (nodes k : ℕ) (seats left : List SeatView) → AreSeats gauge nodes seats → left ≡ take k seats → AreSeats gauge nodes left
first_seats gauge nodes k seats left are e =
    subst (AreSeats gauge nodes) (sym e) (record { at = All-take (IsAt gauge) k seats are.at; words = are.words; few = are.few })

-- The last seats are the host's and as many as its nodes.
pub last_seats : (gauge : TableId) (nodes k : ℕ) (seats own : List SeatView) → AreSeats gauge nodes seats → k + nodes ≡ length seats → own ≡ drop k seats
    → AreForAll gauge own
last_seats gauge nodes k seats own are long e =
    let many : length own ≡ nodes = ap length e ∙ length-drop k seats ∙ omega (arith, long) in
    subst (λ (n : ℕ). AreSeats gauge n own) (sym many)
    (subst (AreSeats gauge nodes) (sym e) (record { at = All-drop (IsAt gauge) k seats are.at; words = are.words; few = are.few }))

-- Fewer seats are taken than there are, so one is left.
pub one_left : {X : Type 0} (seats : List X) (taken all : ℕ) → length seats + taken ≡ all → taken < all → ¬ (seats ≡ [])
one_left seats taken all e less none = let empty : length seats ≡ 0 = ap length none in omega (arith, e, less, empty)

-- The list has enough seats, so memory was refused.
pub memory_alone : (nodes : ℕ) (seats : List SeatView) (fault : Fault) → nodes ≤ length seats → AreNotTaken nodes seats fault → fault ≡ Memory
memory_alone nodes seats fault many (inl short) = absurd (omega (arith, many, short.1))
memory_alone nodes seats fault many (inr memory) = memory.0
