use Rattle.std.proofs.Common.{◌*◌, drop, refl}
use Rattle.ring_log.specs.Parts.{nth_piece}
use Rattle.ring_base.proofs.ListPlaces.{map_numbers}
use Rattle.ring_base.proofs.ListFronts.{take_shorter, rest_whole}
use Rattle.ring_log.proofs.pieces.pieces_of.Goals as goal

pub loop-k-preserved : goal.loop-k-preserved
loop-k-preserved g c =
    let more = map_numbers (nth_piece {A = g.row.A.Denot} c.args.at c.args.bytes.now) c.loop-k.k in
    let whole = take_shorter 7000 (drop (7000 * c.loop-k.k) c.args.bytes.now) in
    let rest = rest_whole (7000 * c.loop-k.k) c.args.bytes.now in
    rw (c.in_ok-push.ensures.items, more, c.loop-k.invariant, c.in_ok-from_slice.ensures.ok, c.min.ensures, rest, whole) refl
