use Rattle.std.proofs.Common.{◌≡◌, ◌-◌, ◌∙◌, arith}
use Rattle.ring_trace_picture.specs.PictureTexts.{IsGrown, IsOpened, lanes_of, picture_height}
use Rattle.ring_trace_picture.proofs.Growth.{grown_by_nothing, grown_more, opened_more, picture_at_ok}
use Rattle.ring_trace_picture.proofs.picture.Picture.write.Goals as goal
use Rattle.ring_trace_picture.proofs.picture.Picture.write.Goals.{in-Some+in_ok-write_rest, in_default}

pub returns : goal.returns
returns g c =
    let s = c.args.self.now in
    let columns : c.canvas-canvas.result.columns - 1 ≡ s.columns = omega (arith, c.canvas-canvas.ensures.columns) in
    let high : c.height.result ≡ picture_height (lanes_of s) s.columns =
    c.height.ensures c.canvas-canvas.ensures.bound ∙ (λ i. picture_height (c.canvas-canvas.ensures.lanes i) (columns i)) in
    let shown : IsOpened c.width.result c.height.result (g.W.Write.contents c.args.out.now) (g.W.Write.contents c.write_legend.new.out) =
    opened_more _ _ _ _ _ c.in_ok-write_head.ensures (grown_more _ _ _ c.in_ok-write_bands.ensures c.in_ok-write_legend.ensures) in
    let rest : IsGrown (g.W.Write.contents c.write_legend.new.out) (g.W.Write.contents c.match-self.out) =
    elim c.match-self.branch [
      | in-Some+in_ok-write_rest w ↦ rw w.out-is w.in_ok-write_rest.ensures
      | in_default w ↦ rw w.out-is (grown_by_nothing _)
    ] in
    picture_at_ok _ _ _ c.write_end.result s c.width.result c.height.result c.width.ensures high
    (opened_more _ _ _ _ _ shown rest) c.write_end.ensures
