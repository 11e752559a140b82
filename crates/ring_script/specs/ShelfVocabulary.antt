-- The vocabulary of the standard object: a shelf with registers, counters, a queue and names, in this order.
-- Formats: Scripts; Operations and replies
use Rattle.std.specs.Prelude.{List, [], ◌∷◌, codes}
use Rattle.ring_script.specs.declared.vocabulary.Argument.TheVariants.{Key, Value, Name}
use Rattle.ring_script.specs.Operations.{OperationForm}

-- `add` is listed twice, so a generated script has it twice as often.
unfoldable pub shelf_operation_forms : List OperationForm
shelf_operation_forms =
    record { word = codes "get"; first = 0 ∷ 1 ∷ []; arguments = Key ∷ [] } ∷
    record { word = codes "put"; first = 0 ∷ 2 ∷ []; arguments = Key ∷ Value ∷ [] } ∷
    record { word = codes "cas"; first = 0 ∷ 3 ∷ []; arguments = Key ∷ Value ∷ Value ∷ [] } ∷
    record { word = codes "add"; first = 1 ∷ 1 ∷ []; arguments = Key ∷ Value ∷ [] } ∷
    record { word = codes "add"; first = 1 ∷ 1 ∷ []; arguments = Key ∷ Value ∷ [] } ∷
    record { word = codes "read"; first = 1 ∷ 2 ∷ []; arguments = Key ∷ [] } ∷
    record { word = codes "push"; first = 2 ∷ 1 ∷ []; arguments = Value ∷ [] } ∷
    record { word = codes "pop"; first = 2 ∷ 2 ∷ []; arguments = [] } ∷
    record { word = codes "length"; first = 2 ∷ 3 ∷ []; arguments = [] } ∷
    record { word = codes "insert"; first = 3 ∷ 1 ∷ []; arguments = Name ∷ [] } ∷
    record { word = codes "remove"; first = 3 ∷ 2 ∷ []; arguments = Name ∷ [] } ∷
    record { word = codes "has"; first = 3 ∷ 3 ∷ []; arguments = Name ∷ [] } ∷
    []
