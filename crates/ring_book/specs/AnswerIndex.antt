-- The answers of a node's tickets, as the book stores them.
-- Rules: The book and the threads 15
use Rattle.std.specs.Prelude.{ℕ, ◌≡◌, ◌≤◌, List, [], ◌∷◌, Option}
use Rattle.ring_session.specs.declared.answer.Answer.{Answer}

-- the answers, and the number of tickets that there is room for
pub record AnswerIndexView : Type 0 where
  pub answers : List (Option Answer)
  pub room : ℕ

-- the same answers, with as much room or more
pub record IsRoomier (old new : AnswerIndexView) : Type 0 where
  pub answers : new.answers ≡ old.answers
  pub room : old.room ≤ new.room

-- the same for each of as many nodes
abbrev pub AreRoomier : List AnswerIndexView → List AnswerIndexView → Type 0
AreRoomier [] [] = Unit {0}
AreRoomier [] (y ∷ ys) = ⊥
AreRoomier (x ∷ xs) [] = ⊥
AreRoomier (x ∷ xs) (y ∷ ys) = IsRoomier x y × AreRoomier xs ys
