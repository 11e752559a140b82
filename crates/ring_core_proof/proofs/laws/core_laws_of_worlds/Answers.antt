use Rattle.ring_core_proof.proofs.LawsInWorlds.{marks_below, all_held_below, all_turns, all_fresh, all_same_sets, all_ended}
use Rattle.ring_core_proof.proofs.laws.core_laws_of_worlds.Goals as goal

pub returns-clause-marks : goal.returns-clause-marks
returns-clause-marks g c = marks_below

pub returns-clause-window : goal.returns-clause-window
returns-clause-window g c = all_held_below

pub returns-clause-visits : goal.returns-clause-visits
returns-clause-visits g c = all_turns

pub returns-clause-fresh : goal.returns-clause-fresh
returns-clause-fresh g c = all_fresh

pub returns-clause-joins : goal.returns-clause-joins
returns-clause-joins g c = all_same_sets

pub returns-clause-ends : goal.returns-clause-ends
returns-clause-ends g c = all_ended
