use Rattle.std.proofs.Common.{◌∙◌, rules, is_ok}
use Rattle.std.proofs.lemmas.Bool.{cond-true}
use Rattle.ring_script.proofs.AsciiLines.{line_ascii}
use Rattle.ring_script.proofs.Readings.{next_asked}
use Rattle.ring_script.proofs.scripts.read_lines.Goals as goal

pub parse_line_unless_skipped-requires : goal.parse_line_unless_skipped-requires
parse_line_unless_skipped-requires g c = λ plain. (line_ascii c.in-Some.line.now c.next_line.new.self.lines c.loop-number.lines.lines (search rules) (c.loop-number.invariant.plain plain)).0

pub loop-number-preserved : goal.loop-number-preserved
loop-number-preserved g c = record {
  read =
      rw (c.push.ensures.items ∙ cond-true (is_ok c.push.result) _ _ (search rules))
      (next_asked g.V.Vocabulary.forms c.args.nodes c.loop-number.numbered_lines.items (record { number = c.in-Some.number; line = c.in-Ok-Some.line })
      c.in-Some.line.now c.loop-number.lines c.next_line.new.self _ c.loop-number.invariant.read
      (search rules) (search rules) (search rules) (search rules));
  plain = λ plain. (line_ascii c.in-Some.line.now c.next_line.new.self.lines c.loop-number.lines.lines (search rules) (c.loop-number.invariant.plain plain)).1;
}
