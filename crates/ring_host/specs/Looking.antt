-- The cache that one look at the book for a node's answers fills.
-- Rules: The book and the threads 26
use Rattle.std.specs.Prelude.{ℕ, ◌-◌, ◌==◌, ◌&&◌, List, Option, None, nat_le, slice_get, if◌then◌else◌}
use Rattle.ring_session.specs.declared.answer.Answer.{Answer}

-- The answers to the node's tickets with the numbers from `first` on.
pub record AnswerCacheView : Type 0 where
  pub node : ℕ
  pub first : ℕ
  pub found : List Answer

-- The cached answer to the node's ticket, if there is one.
abbrev pub cached_answer : AnswerCacheView → ℕ → ℕ → Option Answer
cached_answer looked node ticket = if looked.node == node && nat_le looked.first ticket then slice_get looked.found (ticket - looked.first) else None
