use Rattle.std.proofs.Common.{◌*◌, drop, refl}
use Rattle.ring_log.specs.Parts.{nth_part}
use Rattle.ring_base.proofs.ListPlaces.{map_numbers}
use Rattle.ring_base.proofs.ListFronts.{take_shorter, rest_whole}
use Rattle.ring_log.proofs.parts.parts_from_calls.Goals as goal

pub loop-k-preserved : goal.loop-k-preserved
loop-k-preserved g c =
    let more = map_numbers (nth_part c.args.at c.args.places.now) c.loop-k.k in
    let seven = take_shorter 7 (drop (7 * c.loop-k.k) c.args.places.now) in
    let rest = rest_whole (7 * c.loop-k.k) c.args.places.now in
    rw (c.in_ok-push.ensures.items, more, c.loop-k.invariant, c.in_ok-calls.ensures.ok, c.min.ensures, rest, seven) refl
