-- The counts that the code keeps of a new ring's messages in the front, from which it decides whether the ring may be
-- installed.
-- Rules: Recovery 7
use Rattle.std.specs.Prelude.{◌≡◌, ℕ, Bool, List, map, length}
use Rattle.ring_base.specs.Numbers.{greatest}
use Rattle.ring_base.specs.Processors.{IsProc, has}
use Rattle.ring_window.specs.Messages.{Message}
use Rattle.ring_recover.specs.Installing.{ends, has_end_of, has_user}

-- The number of messages, the members whose End is among them, the number of the last End, and whether a user message
-- is among them.
pub record HasEndCounts {A : Type 0} (xs : List (Message A)) (upto ended last : ℕ) (user : Bool) : Type 0 where
  pub count : upto ≡ length xs
  pub members : (i : ℕ) → IsProc i → has ended i ≡ has_end_of xs i
  pub last_is : last ≡ greatest (map (λ (x : Message A). x.number) (ends xs))
  pub user_is : user ≡ has_user xs
