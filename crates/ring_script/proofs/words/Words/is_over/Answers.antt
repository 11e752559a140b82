use Rattle.std.proofs.Common.{ℕ, List, length, ap, ◌∙◌}
use Rattle.std.specs.Prelude.{◌==◌}
use Rattle.ring_script.proofs.Digits.{none_left}
use Rattle.ring_script.proofs.words.Words.is_over.Goals as goal

pub returns : goal.returns
returns c =
    none_left c.self.inside.separator c.self.inside.rest c.is_none.result c.is_none.ensures
    ∙ ap (λ (words : List (List ℕ)). length words == 0) c.self.view_is
