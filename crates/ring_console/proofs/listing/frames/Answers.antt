use Rattle.std.proofs.Common.{rules, inr, refl, ◌∙◌}
use Rattle.ring_failure.proofs.WriterSlotLemmas.{given_back, where_known, at_ok}
use Rattle.ring_failure.specs.declared.failure.Failure.TheVariants.{Refused}
use Rattle.ring_base.specs.declared.fault.Fault.TheVariants.{Memory}
use Rattle.ring_console.specs.FrameLines.{listing_of}
use Rattle.ring_console.proofs.ListingLemmas.{cut_told, none_cut}
use Rattle.ring_console.proofs.listing.frames.Goals as goal

pub returns-in-Some-clause-frame_lines : goal.returns-in-Some-clause-frame_lines
returns-in-Some-clause-frame_lines g c = λ zero_is.
    let listed = at_ok c.list_frames-done.result c.list_frames-done.ensures.frame_lines (c.exit_status-status.ensures.ok zero_is) in
    let printed = where_known _ _ _ (λ xs known.
    let back = given_back g.O.Write.contents _ c.into_parts-writer.result.0 _ c.fill_slot.new.buffer c.list_frames-done.new.out
    c.exit_status-status.new.out (listing_of listed.0) xs known c.fill_slot.ensures.slot (c.fill_slot.ensures.bytes ∙ c.in-Ok.ensures.empty) listed.1.printed
    c.exit_status-status.ensures.kept (c.exit_status-status.ensures.flushed zero_is) c.into_parts-writer.ensures.inner c.in-Some.is in
    let name = back.0 in
    let bytes = back.1 in
    search rules) in
    (listed.0, record { fit = listed.1.fit; read = listed.1.read; printed = printed }, listed.2)

pub returns-in-Some-clause-cut : goal.returns-in-Some-clause-cut
returns-in-Some-clause-cut g c = λ one_is.
    let ended = c.exit_status-status.ensures in
    cut_told _ c.list_frames-done.result _ _ _ _ _ _ _ _ ended.output ended.well ended.stands c.list_frames-done.ensures.cut
    (λ text emptied written. where_known _ _ _ (λ xs known.
    let back = given_back g.O.Write.contents _ c.into_parts-writer.result.0 _ c.fill_slot.new.buffer c.list_frames-done.new.out
    c.exit_status-status.new.out text xs known c.fill_slot.ensures.slot (c.fill_slot.ensures.bytes ∙ c.in-Ok.ensures.empty) written
    c.exit_status-status.ensures.kept emptied c.into_parts-writer.ensures.inner c.in-Some.is in
    let name = back.0 in
    let bytes = back.1 in
    search rules))

pub returns-in_default-clause-frame_lines : goal.returns-in_default-clause-frame_lines
returns-in_default-clause-frame_lines g c = λ zero_is.
    let listed = at_ok c.list_frames-done.result c.list_frames-done.ensures.frame_lines (c.exit_status-status.ensures.ok zero_is) in
    let printed = where_known _ _ _ (λ xs known.
    absurd (given_back g.O.Write.contents _ c.into_parts-writer.result.0 _ c.fill_slot.new.buffer c.list_frames-done.new.out
    c.exit_status-status.new.out (listing_of listed.0) xs known c.fill_slot.ensures.slot (c.fill_slot.ensures.bytes ∙ c.in-Ok.ensures.empty) listed.1.printed
    c.exit_status-status.ensures.kept (c.exit_status-status.ensures.flushed zero_is) c.into_parts-writer.ensures.inner c.in_default.is)) in
    (listed.0, record { fit = listed.1.fit; read = listed.1.read; printed = printed }, listed.2)

pub returns-in_default-clause-cut : goal.returns-in_default-clause-cut
returns-in_default-clause-cut g c = λ one_is.
    let ended = c.exit_status-status.ensures in
    cut_told _ c.list_frames-done.result _ _ _ _ _ _ _ _ ended.output ended.well ended.stands c.list_frames-done.ensures.cut
    (λ text emptied written. where_known _ _ _ (λ xs known.
    absurd (given_back g.O.Write.contents _ c.into_parts-writer.result.0 _ c.fill_slot.new.buffer c.list_frames-done.new.out
    c.exit_status-status.new.out text xs known c.fill_slot.ensures.slot (c.fill_slot.ensures.bytes ∙ c.in-Ok.ensures.empty) written
    c.exit_status-status.ensures.kept emptied c.into_parts-writer.ensures.inner c.in_default.is)))

pub returns-in-Err-clause-cut : goal.returns-in-Err-clause-cut
returns-in-Err-clause-cut g c = λ one_is. inr (
  Refused Memory,
  (λ e. cc),
  none_cut g.row.A.Denot (g.R.Read.remaining c.args.input.now) (g.R.Read.remaining c.args.input.now)
      (g.O.Write.contents c.args.out.now) (Refused Memory) refl,
)
