use Rattle.std.proofs.Common.{◌≢◌, length, refl, sym, ap, ◌∙◌, arith}
use Rattle.std.proofs.lemmas.Bool.{eqb-false}
use Rattle.ring_script.specs.Words.{LinesLeft, lines_of}
use Rattle.ring_script.proofs.Pieces.{lines-ended, lines-last, lines-none}
use Rattle.ring_script.proofs.lines.Lines.next_line.Goals as goal
use Rattle.ring_script.proofs.lines.Lines.next_line.Goals.{in-Some, in-None}

pub returns-then-is_empty : goal.returns-then-is_empty
returns-then-is_empty c =
    (sym (ap (λ (left : LinesLeft). left.lines) c.self.view_is) ∙ lines-none c.self.inside.rest.now (sym c.if-is_empty.ensures), refl)

pub returns : goal.returns
unfolding lines_of
returns c =
    let seen = sym (ap (λ (left : LinesLeft). left.lines) c.self.view_is) in
    let before = ap (λ (left : LinesLeft). left.before) c.self.view_is in
    elim c.match-memchr.branch [
      | in-Some w ↦ rw (w.line-is, w.self-inside-is) (
        seen ∙ lines-ended w.in-Some.end c.self.inside.rest.now w.in-Some.ensures,
        omega (arith, before),
        omega (arith, before),
      )
      | in-None w ↦
          let some : length c.self.inside.rest.now ≢ 0 = eqb-false _ _ (sym c.if-is_empty.ensures) in
          rw (w.line-is, w.self-inside-is) (
            seen ∙ lines-last c.self.inside.rest.now w.in-None.ensures (omega arith),
            omega (arith, before),
            omega (arith, before),
          )
    ]
