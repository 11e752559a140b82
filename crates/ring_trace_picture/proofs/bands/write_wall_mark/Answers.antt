use Rattle.ring_trace_picture.proofs.Growth.{grown_at_ok}
use Rattle.ring_trace_picture.proofs.bands.write_wall_mark.Goals as goal

pub returns-in-Some-place_label : goal.returns-in-Some-place_label
returns-in-Some-place_label g c = grown_at_ok _ _ _ c.write_heal.result c.in_ok-write_wall-in-Heal.ensures c.write_heal.ensures
