use Rattle.std.proofs.Common.{ℕ, subst, sym}
use Rattle.ring_console.specs.declared.frame_reader.InputState.{InputState}
use Rattle.ring_console.specs.Listings.{unread_bytes, left_of, IsNext, IsStop}
use Rattle.ring_console.proofs.ListingLemmas.{both_at_ok, weaker_at_err, next_of_all, next_after, stop_of_all, stop_after}
use Rattle.ring_console.proofs.frame_reader.FrameReader.next_frame.Goals as goal

pub returns-clause-next : goal.returns-clause-next
returns-clause-next g c =
    let mid = c.read_enough.new.self in
    let new = c.take_frame.new.self in
    let rest = g.R.Read.remaining c.read_enough.new.input in
    let ready = c.in_ok-read_enough in
    both_at_ok c.take_frame.result _ _ _ c.take_frame.ensures.next c.take_frame.ensures.ended (λ told seen_end.
    let next = c.take_frame.new.next in
    let whole = next_of_all (unread_bytes mid) (unread_bytes new) rest mid.next_frame_offset new.next_frame_offset next told (λ none. ready.ensures.ended (seen_end none)) in
    next_after _ _ _ _ _ next ready.ensures.kept
    (subst (λ (p : ℕ). IsNext (left_of mid rest) (left_of new rest) p new.next_frame_offset next)
    c.read_enough.ensures.position whole))

pub returns-clause-stopped : goal.returns-clause-stopped
returns-clause-stopped g c =
    let mid = c.read_enough.new.self in
    let rest = g.R.Read.remaining c.read_enough.new.input in
    let ready = c.in_ok-read_enough in
    weaker_at_err c.take_frame.result _ _ c.take_frame.ensures.stopped (λ failure stop.
    let whole = stop_of_all g.row.A.Denot (unread_bytes mid) rest mid.next_frame_offset mid.state failure stop ready.ensures.enough ready.ensures.ended in
    let there = subst (λ (p : ℕ). IsStop g.row.A.Denot (left_of mid rest) rest p mid.state failure) c.read_enough.ensures.position whole in
    subst (λ (state : InputState). IsStop g.row.A.Denot (left_of c.args.self.now (g.R.Read.remaining c.args.input.now)) rest
    c.args.self.now.next_frame_offset state failure) (sym c.take_frame.ensures.state)
    (stop_after g.row.A.Denot _ _ _ _ mid.state failure ready.ensures.kept there))
