-- Seats made one after the other are new, each at the gauge, and of the node at its place or of none.
use Rattle.std.proofs.Common.{◌≡◌, ℕ, suc, ◌<◌, ◌≤◌, ◌++◌, Bool, true, false, nat_lt, if◌then◌else◌, List, [], ◌∷◌, Option, Some, None}
use Rattle.std.proofs.Common.{length, refl, ap, sym, ◌∙◌, inl, inr, arith}
use Rattle.std.specs.Prelude.{All}
use Rattle.std.proofs.lemmas.Bool.Decides.{nat_tests}
use Rattle.std.proofs.lemmas.List.Elements.{All-from_recursion}
use Rattle.ring_base.proofs.Each.{each-placed}
use Rattle.ring_base.proofs.ListPlaces.{added_cases}
use Rattle.atomic_table.specs.Seated.{TableId}
use Rattle.ring_seat.specs.Clocks.{new_clock}
use Rattle.ring_seat.specs.Seats.{SeatView, IsAt, AreNew, new_seat, node_at}

-- a seat of this gauge and node, on which nothing was published and from which nothing was seen
pub is_new : (gauge t : TableId) (node n : Option ℕ) (published : List ℕ) (seen : List (ℕ × ℕ)) → t ≡ gauge → n ≡ node → published ≡ [] → seen ≡ []
    → record { gauge = t; node = n; published = published; seen = seen; clock = new_clock } ≡ new_seat gauge node
is_new gauge t node n published seen table who none nothing = rw (table, who, none, nothing) refl

pub seats_add : (gauge : TableId) (nodes n : ℕ) (seats : List SeatView) (new : SeatView) → length seats ≡ n → new ≡ new_seat gauge (node_at nodes n)
    → AreNew gauge nodes seats → AreNew gauge nodes (seats ++ new ∷ [])
seats_add gauge nodes n seats new len is each i s h = elim (added_cases seats new i s h) [
  | inl w ↦ w.1 ∙ (is ∙ ap (λ (k : ℕ). new_seat gauge (node_at nodes k)) (sym len ∙ sym w.0))
  | inr w ↦ each i s w
]

pub node_within : (nodes i : ℕ) → i < nodes → node_at nodes i ≡ Some (suc i)
node_within nodes i lt = let b : nat_lt i nodes ≡ true = grind (arith, nat_tests) in ap (λ (x : Bool). if x then Some (suc i) else None) b

pub node_past : (nodes i : ℕ) → nodes ≤ i → node_at nodes i ≡ None
node_past nodes i le = let b : nat_lt i nodes ≡ false = grind (arith, nat_tests) in ap (λ (x : Bool). if x then Some (suc i) else None) b

-- new seats are at their gauge
pub all_at : (gauge : TableId) (nodes : ℕ) (seats : List SeatView) → AreNew gauge nodes seats → All (IsAt gauge) seats
all_at gauge nodes seats new =
    All-from_recursion (IsAt gauge) seats (each-placed (IsAt gauge) seats (λ i s there. ap (λ (z : SeatView). z.gauge) (new i s there)))

-- a new seat belongs to the node at its place, or to none after the nodes
pub new_of_node : (gauge t : TableId) (nodes i n : ℕ) (published : List ℕ) (seen : List (ℕ × ℕ)) → t ≡ gauge → n ≡ suc i → i < nodes → published ≡ [] → seen ≡ []
    → record { gauge = t; node = Some n; published = published; seen = seen; clock = new_clock } ≡ new_seat gauge (node_at nodes i)
new_of_node gauge t nodes i n published seen table number within none nothing =
    is_new gauge t (node_at nodes i) (Some n) published seen table (ap Some number ∙ sym (node_within nodes i within)) none nothing

pub new_of_none : (gauge t : TableId) (nodes i : ℕ) (published : List ℕ) (seen : List (ℕ × ℕ)) → t ≡ gauge → nodes ≤ i → published ≡ [] → seen ≡ []
    → record { gauge = t; node = None; published = published; seen = seen; clock = new_clock } ≡ new_seat gauge (node_at nodes i)
new_of_none gauge t nodes i published seen table past none nothing =
    is_new gauge t (node_at nodes i) None published seen table (sym (node_past nodes i past)) none nothing
