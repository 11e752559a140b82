-- The frame that the bytes encode is put into the place.
use Rattle.std.proofs.Common.{rules, ◌≡◌}
use Rattle.std.specs.Prelude.{slice_range}
use Rattle.ring_base.specs.declared.fault.Fault.TheVariants.{Memory}
use Rattle.ring_world.proofs.Storing.{put_is, put_refused}
use Rattle.ring_world.proofs.frame_store.decode.Goals as goal

pub returns : goal.returns
returns g c = λ frame encoded.
    put_is (slice_range c.args.bytes.now c.args.frame_position.start c.args.frame_position.end) c.decode_first_frame_into.new.place c.in_ok-decode_first_frame_into.field-0 frame encoded
    c.encoding_law.ensures c.unique_encoding_law.ensures c.in_ok-decode_first_frame_into.ensures.found c.in_ok-decode_first_frame_into.ensures.placed

pub returns-in_err-decode_first_frame_into : goal.returns-in_err-decode_first_frame_into
returns-in_err-decode_first_frame_into g c = λ frame encoded.
    let plain : c.in_err-decode_first_frame_into.field-0.0 ≡ Memory =
    put_refused (slice_range c.args.bytes.now c.args.frame_position.start c.args.frame_position.end) c.in_err-decode_first_frame_into.field-0.0 frame encoded
    c.encoding_law.ensures c.in_err-decode_first_frame_into.ensures.bad c.in_err-decode_first_frame_into.ensures.faults in
    search (rules, plain)
