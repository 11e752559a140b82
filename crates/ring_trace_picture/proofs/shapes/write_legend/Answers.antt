use Rattle.ring_trace_picture.proofs.Growth.{grown_more, grown_at_ok}
use Rattle.ring_trace_picture.proofs.shapes.write_legend.Goals as goal

pub returns : goal.returns
returns g c =
    grown_at_ok _ _ _ c.write_words-3.result
    (grown_more _ _ _ (grown_more _ _ _ c.in_ok-write_colours.ensures c.in_ok-write_words.ensures) c.in_ok-write_words-2.ensures)
    c.write_words-3.ensures
