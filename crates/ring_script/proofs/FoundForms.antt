-- The form that a word names, as the program finds it.
use Rattle.std.proofs.Common.{◌≡◌, ℕ, Bool, true, false, List, [], ◌∷◌, map, Option, Some, refl}
use Rattle.std.specs.Prelude.{option_map, if◌then◌else◌}
use Rattle.std.specs.List.{find}
use Rattle.ring_script.specs.declared.vocabulary.OperationForm as declared
use Rattle.ring_script.specs.Numbers.{is}
use Rattle.ring_script.specs.Operations.{OperationForm, form_view, form_of}

said_either : (b : Bool) (form : declared.OperationForm) (found : Option declared.OperationForm) (other : Option OperationForm) → option_map form_view found ≡ other
    → option_map form_view (if b then Some form else found) ≡ (if b then Some (form_view form) else other)
said_either true form found other same = refl
said_either false form found other same = same

pub found_said : (forms : List declared.OperationForm) (word : List ℕ)
    → option_map form_view (find (λ form. is form.word.now word) forms) ≡ form_of (map form_view forms) word
unfolding form_of
found_said [] word = refl
found_said (form ∷ forms) word = said_either (is form.word.now word) form _ _ (found_said forms word)
