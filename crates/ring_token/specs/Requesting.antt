-- How the code merges the smallest numbers of two ascending lists, one at a time.
-- Rules: Token and window 7
use Rattle.std.specs.Prelude.{ℕ, min, ◌==◌, if◌then◌else◌, List, [], ◌∷◌, Option, Some, None}

-- The lesser of the two first numbers.
abbrev pub least_first : List ℕ → List ℕ → Option ℕ
least_first [] [] = None
least_first [] (y ∷ ys) = Some y
least_first (x ∷ xs) [] = Some x
least_first (x ∷ xs) (y ∷ ys) = Some (min x y)

-- The list without its first number if that is n, otherwise the whole list.
abbrev pub after : ℕ → List ℕ → List ℕ
after n [] = []
after n (x ∷ xs) = if x == n then xs else x ∷ xs
