-- Numbers separated by commas, with one more at the end.
use Rattle.std.proofs.Common.{◌≡◌, ℕ, List, [], ◌∷◌, Bool, true, false, refl}
use Rattle.std.specs.Prelude.{codes}
use Rattle.std.specs.Fmt.{decimal}
use Rattle.std.specs.List.{join_by}
use Rattle.ring_console.specs.FrameLines.{numbers_text}

-- Whether there are no numbers.
abbrev pub is_none : List ℕ → Bool
is_none [] = true
is_none (n ∷ ns) = false

-- If there are numbers, no dash is written.
pub joined_text : (ns : List ℕ) → is_none ns ≡ false → join_by decimal (codes ",") ns ≡ numbers_text ns
joined_text [] e = cc
joined_text (n ∷ ns) e = refl
