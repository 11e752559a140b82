-- The view that contracts have of a slot for a borrowed writer.
use Rattle.std.specs.Prelude.{ℕ, List, [], ◌∷◌, Option, None, Some}
use Rattle.std.specs.Borrow.{MutBor}
use Rattle.std.specs.Io.KnownBytes.{prepend_known}

-- The borrow's name, and then the known bytes.
abbrev pub borrowed_bytes : ℕ → Option (List ℕ) → Option (List ℕ)
borrowed_bytes name bytes = prepend_known (name ∷ []) bytes

-- Unknown if no writer is borrowed; otherwise the borrow's name, and then the writer's known bytes.
abbrev pub slot_bytes : {W : Type 0} → (W → Option (List ℕ)) → Option (MutBor W) → Option (List ℕ)
slot_bytes contents None = None
slot_bytes contents (Some writer) = borrowed_bytes writer.ghost_name (contents writer.now)
