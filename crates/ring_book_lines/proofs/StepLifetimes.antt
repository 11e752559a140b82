-- The parts of a step live as long as its memory.
use Rattle.std.proofs.Common.{ℕ, List}
use contract.BorrowLft.{◌⊑◌, ⊑_meet, ⊑_static}
use denote.RattleType.{RattleType}
use Rattle.std.specs.declared.alloc.Allocator.{Ghosts}
use Rattle.ring_book_lines.specs.contracts.step.Step.{the_row}

pub step_lives : (A : RattleType) (g : Ghosts A.Denot) (κ : List ℕ) → κ ⊑ A.lives → κ ⊑ (the_row A g).lives
step_lives A g κ h = search (⊑_meet, ⊑_static, h) depth 200 fits 1000000
