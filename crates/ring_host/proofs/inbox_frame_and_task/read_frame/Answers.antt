use Rattle.std.proofs.Common.{[], sym, ◌∙◌}
use Rattle.std.proofs.lemmas.List.{append-nil}
use Rattle.std.proofs.lemmas.Result.{err_from_is_err_and}
use Rattle.ring_wire.specs.Frames.{encoding_of}
use Rattle.ring_wire.specs.FrameEncodingLaws.{frame_encoding_of_grammar}
use Rattle.ring_host.proofs.ReadFrames.{got-read, got-none}
use Rattle.ring_host.proofs.inbox_frame_and_task.read_frame.Goals as goal

pub returns-clause-read : goal.returns-clause-read
returns-clause-read g c =
    got-read c.decode_first_frame_into.new.place c.args.bytes.now c.in_ok-len.len c.in_ok-len.ensures.found c.in_ok-len.ensures.placed c.if-len-bytes.false

pub returns-in_err-len-clause-bad : goal.returns-in_err-len-clause-bad
returns-in_err-len-clause-bad g c =
    let p = err_from_is_err_and c.from_residual.result c.from_residual.ensures.1 in
    rw (p.1, p.2) (λ h f encodes. let s = frame_encoding_of_grammar f c.args.bytes.now encodes in c.in_err-len.ensures.bad h f [] s.0 (s.1 ∙ sym (append-nil (encoding_of f))))

pub returns-then-len-bytes-clause-bad : goal.returns-then-len-bytes-clause-bad
returns-then-len-bytes-clause-bad g c =
    λ h. got-none c.decode_first_frame_into.new.place c.args.bytes.now c.in_ok-len.len c.in_ok-len.ensures.found c.in_ok-len.ensures.placed c.if-len-bytes.true
