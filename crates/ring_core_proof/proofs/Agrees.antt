-- Each join that a core has counted has exactly its sets.
use Rattle.std.proofs.Common.{ℕ, List}
use Rattle.ring_wire.specs.declared.frame.Frame.{Frame}
use Rattle.ring_core_spec.specs.Joins.{AllHaveOwnSets}
use Rattle.ring_core_spec.specs.declared.input.Input.{Input}
use Rattle.ring_core_spec.specs.State.{Core, opening}
use Rattle.ring_core_spec.specs.Stepping.{after_inputs}
use Rattle.ring_core_proof.specs.Moves.{Move, Idles, Enters, Learns, Visits, Takes, Installs, core_after_move, MayMove}
use Rattle.ring_core_proof.proofs.KeptByMoves.{IsKeptByMoves, always}

abbrev pub SayingSame : {A : Type 0} → Core A → Type 0
SayingSame c = AllHaveOwnSets c.gathering

moved_same : {A : Type 0} → (received : Frame A → Type 0) (c : Core A) (m : Move A) → MayMove received c m → SayingSame c → SayingSame (core_after_move c m)
moved_same received c (Idles state gathering last_sent queue sends) h s = h.joins s
moved_same received c (Enters k) h s = s
moved_same received c (Learns k) h s = s
moved_same received c (Visits t fresh requests again queue) h s = s
moved_same received c (Takes x) h s = s
moved_same received c Installs h s = s

pub saying_same : {A : Type 0} → IsKeptByMoves (SayingSame {A = A})
saying_same = record { moves = moved_same }

pub all_same : {A : Type 0} → (n me : ℕ) (inputs : List (Input A)) → AllHaveOwnSets (after_inputs (opening n me) inputs).gathering
all_same n me inputs = always SayingSame saying_same (opening n me) inputs tt
