use Rattle.std.proofs.Common.{sym, ap, ◌∙◌}
use Rattle.std.specs.List.{list_all}
use Rattle.ring_script.specs.Words.{LinesLeft, are_ascii}
use Rattle.ring_script.proofs.AsciiLines.{ascii_told, lines_ascii}
use Rattle.ring_script.proofs.lines.Lines.are_ascii.Goals as goal

pub returns : goal.returns
returns c =
    ascii_told c.is_ascii.result c.self.inside.rest.now c.is_ascii.ensures.cases
    ∙ sym (lines_ascii c.self.inside.rest.now) ∙ ap (λ (left : LinesLeft). list_all are_ascii left.lines) c.self.view_is
