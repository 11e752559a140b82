use Rattle.std.proofs.Common.{◌≡◌, drop}
use Rattle.std.specs.List.{find}
use Rattle.ring_script.specs.Numbers.{is}
use Rattle.ring_script.specs.declared.vocabulary.OperationForm.{OperationForm}
use Rattle.ring_script.proofs.vocabulary.first_form_with_word.Given as goal

-- The form found among the remaining ones is the one found among all.
abbrev pub invariant-loop-form : goal.invariant-loop-form
invariant-loop-form l =
    find (λ (form : OperationForm). is form.word.now l.word) (drop l.form-index l.forms) ≡ find (λ (form : OperationForm). is form.word.now l.word) l.forms
