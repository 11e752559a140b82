-- The operations of the standard object are short.
use Rattle.std.specs.Prelude.{◌≡◌, true, refl}
use Rattle.ring_script.specs.Operations.{are_short}
use Rattle.ring_script.specs.ShelfVocabulary.{shelf_operation_forms}

pub shelf_short : are_short shelf_operation_forms ≡ true
unfolding shelf_operation_forms
shelf_short = refl
