use Rattle.std.proofs.Common.{sym, ap, ◌∙◌}
use Rattle.ring_script.specs.Words.{pieces_left}
use Rattle.ring_script.proofs.Pieces.{pieces-ended, pieces-last}
use Rattle.ring_script.proofs.words.Words.next_word.Goals as goal

pub returns-in-Some : goal.returns-in-Some
returns-in-Some c =
    sym c.self.view_is ∙ ap (pieces_left c.self.inside.separator) c.in_ok-text.was
    ∙ pieces-ended c.self.inside.separator c.in-Some.end c.in_ok-text.text.now c.in-Some.ensures

pub returns-in-None : goal.returns-in-None
returns-in-None c =
    sym c.self.view_is ∙ ap (pieces_left c.self.inside.separator) c.in_ok-text.was ∙ pieces-last c.self.inside.separator c.in_ok-text.text.now c.in-None.ensures
