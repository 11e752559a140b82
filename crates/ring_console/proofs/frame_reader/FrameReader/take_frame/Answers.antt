use denote.Enum.Bare.{same_true}
use Rattle.std.proofs.Common.{◌-◌, ◌∙◌, ap, rules, subst, sym}
use Rattle.std.specs.Prelude.{length, drop, take, IfSome}
use Rattle.ring_wire.specs.Frames.{encoding_of, FrameFits}
use Rattle.ring_wire.specs.Prefixes.{IsEncodedPrefix}
use Rattle.ring_wire.specs.declared.frame.Frame.{Frame}
use Rattle.ring_console.specs.Listings.{BeginsWithNoFrame}
use Rattle.ring_console.specs.contracts.frame_reader.InputState.{the_type}
use Rattle.ring_base.proofs.ListFronts.{rest_whole}
use Rattle.ring_console.proofs.ListingLemmas.{next_put, stop_here, stop_failed}
use Rattle.ring_console.proofs.frame_reader.FrameReader.take_frame.Goals as goal

pub returns-in-Ok-clause-next : goal.returns-in-Ok-clause-next
returns-in-Ok-clause-next g c =
    let self = c.args.self.now in
    let place = c.decode_first_frame_into.new.place in
    let found : IfSome place (λ (frame : Frame g.row.A.Denot). IsEncodedPrefix encoding_of FrameFits
    (take (length self.bytes.items - self.taken_bytes) (drop self.taken_bytes self.bytes.items)) frame c.in-Ok.length)
    = rw c.deref.ensures.value at c.in-Ok.ensures.found in
    next_put self.bytes.items self.taken_bytes c.in-Ok.length self.next_frame_offset _ place c.in-Ok.ensures.placed found c.saturating_add-self.ensures

pub returns-in-Err-BadFrame-2-clause-stopped : goal.returns-in-Err-BadFrame-2-clause-stopped
returns-in-Err-BadFrame-2-clause-stopped g c =
    let self = c.args.self.now in
    let none : BeginsWithNoFrame g.row.A.Denot (take (length c.deref.result.now - self.taken_bytes)
    (drop self.taken_bytes c.deref.result.now)) = c.in-Err-BadFrame.ensures.bad c.in-Err-BadFrame.field-0-is in
    let here = subst (BeginsWithNoFrame g.row.A.Denot) (rest_whole self.taken_bytes c.deref.result.now ∙ ap (drop self.taken_bytes) c.deref.ensures.value) none in
    stop_here g.row.A.Denot (drop self.taken_bytes self.bytes.items) self.next_frame_offset self.state (λ failed. let same = rw failed at c.if-eq-2.ensures in cc) here

pub returns-in-Err-BadFrame-clause-stopped : goal.returns-in-Err-BadFrame-clause-stopped
returns-in-Err-BadFrame-clause-stopped g c =
    let self = c.args.self.now in
    let none : BeginsWithNoFrame g.row.A.Denot (take (length c.deref.result.now - self.taken_bytes)
    (drop self.taken_bytes c.deref.result.now)) = c.in-Err-BadFrame.ensures.bad c.in-Err-BadFrame.field-0-is in
    let here = subst (BeginsWithNoFrame g.row.A.Denot) (rest_whole self.taken_bytes c.deref.result.now ∙ ap (drop self.taken_bytes) c.deref.ensures.value) none in
    stop_failed g.row.A.Denot (drop self.taken_bytes self.bytes.items) self.next_frame_offset self.state (same_true the_type (search rules) _ _ (sym c.if-eq-2.ensures)) here
