-- The words for a lock table's operations in scripts.
use Rattle.std.specs.Prelude.{List, [], ◌∷◌, codes}
use Rattle.totem_ring.specs.Words.{OperationForm, Key, Value}

-- Each operation's word, the byte that begins its encoding, and its arguments.
abbrev pub lock_forms : List OperationForm
lock_forms =
    record { word = codes "acquire"; first = 1 ∷ []; arguments = Key ∷ Value ∷ [] } ∷
    record { word = codes "release"; first = 2 ∷ []; arguments = Key ∷ Value ∷ [] } ∷
    record { word = codes "holder"; first = 3 ∷ []; arguments = Key ∷ [] } ∷
    []
