-- The state that the code keeps of a window, and how it represents all that was ever held. The state is 256 slots for
-- messages, and a bit for each number of the window.
-- Rules: Token and window 14
use Rattle.std.specs.Prelude.{◌≡◌, ℕ, ◌+◌, ◌-◌, ◌%◌, ◌<◌, ◌≤◌, false, List, length, Option, None, slice_index_or}
use Rattle.ring_wire.specs.declared.message.Message.{Message}
use Rattle.ring_window.specs.Bits.{is_set}
use Rattle.ring_window.specs.Held.{found, holds, front_of, highest}
use Rattle.ring_window.specs.Windows.{WindowHistory}
use Rattle.ring_base.specs.Numbers.{window_size}

-- The slot of number n: (n - 1) mod 256.
abbrev pub place_of : ℕ → ℕ
place_of n = (n - 1) % window_size

-- The message in the slot of number n, if any.
abbrev pub message_in_slot : {A : Type 0} → List (Option (Message A)) → ℕ → Option (Message A)
message_in_slot places n = slice_index_or places (place_of n) None

-- Each number of the window has its message in its slot, and its bit is set exactly if it was held. Neither a number
-- above the window nor number 0 was held; all numbers up to the safe mark were.
pub record IsWindow {A : Type 0} (w : WindowHistory A) (front top : ℕ) (words : List ℕ) (places : List (Option (Message A))) : Type 0 where
  pub front_is : front ≡ front_of w.held w.ring
  pub top_is : top ≡ highest w.held w.ring
  pub safe : w.mark ≤ front
  pub near : front ≤ w.mark + window_size
  pub none : holds w.held w.ring 0 ≡ false
  pub beyond : (n : ℕ) → w.mark + window_size < n → holds w.held w.ring n ≡ false
  pub bits : (j : ℕ) → is_set words j ≡ holds w.held w.ring (w.mark + 1 + j)
  pub count : length places ≡ window_size
  pub placed : (n : ℕ) → w.mark < n → n ≤ w.mark + window_size → message_in_slot places n ≡ found w.held w.ring n
