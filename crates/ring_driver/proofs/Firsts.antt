-- A queue gives its first item, or nothing if it is empty.
use Rattle.std.proofs.Common.{◌≡◌, ◌<◌, ◌++◌, ℕ, List, [], ◌∷◌, Option, Some, None, refl, sym, arith}
use Rattle.std.specs.Prelude.{length, option_to_list, IsSome}
use Rattle.ring_driver.specs.Driving.{IsFirstTaken}

pub first_of : {T : Type 0} (before after : List T) (r : Option T) (count : ℕ) → count ≡ length before → before ≡ option_to_list r ++ after
    → (0 < count → IsSome r) → IsFirstTaken before after r
first_of before after (Some x) count is taken some = taken
first_of [] after None count is taken some = (refl, sym taken)
first_of (x ∷ before) after None count is taken some = absurd (cc (some (omega (arith, is))))
