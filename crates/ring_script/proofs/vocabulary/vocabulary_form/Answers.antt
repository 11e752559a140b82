use Rattle.std.proofs.Common.{ap, ◌∙◌}
use Rattle.std.specs.Prelude.{option_map}
use Rattle.ring_script.specs.Operations.{form_view, form_of}
use Rattle.ring_script.proofs.FoundForms.{found_said}
use Rattle.ring_script.proofs.vocabulary.vocabulary_form.Goals as goal

pub returns : goal.returns
returns g c = ap (option_map form_view) c.first_form_with_word.ensures ∙ found_said c.forms.result.now c.args.word.now ∙ ap (λ forms. form_of forms c.args.word.now) c.forms.ensures
