use Rattle.std.proofs.Common.{[], sym, ◌∙◌}
use Rattle.std.proofs.lemmas.List.{append-nil}
use Rattle.std.proofs.lemmas.Result.{err_from_is_err_and}
use Rattle.ring_wire.specs.Prefixes.{prefix_of_whole_encoding, prefix_is_whole}
use Rattle.ring_wire.specs.Frames.{encoding_of, frame_format}
use Rattle.ring_wire.specs.FrameEncodingLaws.{frame_encoding_of_grammar, text_is_encoding}
use Rattle.ring_wire.proofs.frame.decode_frame.Goals as goal

pub returns-in_err-frame-clause-bad : goal.returns-in_err-frame-clause-bad
returns-in_err-frame-clause-bad g c =
    let p = err_from_is_err_and c.from_residual.result c.from_residual.ensures.1 in
    rw (p.1, p.2) (λ h f encodes. let s = frame_encoding_of_grammar f c.args.src.now encodes in c.in_err-frame.ensures.bad h f [] s.0 (s.1 ∙ sym (append-nil (encoding_of f))))

pub returns-then-len-src-clause-bad : goal.returns-then-len-src-clause-bad
returns-then-len-src-clause-bad g c =
    λ h f encodes. let s = frame_encoding_of_grammar f c.args.src.now encodes in c.if-len-src.true
    (prefix_of_whole_encoding frame_format c.args.src.now c.in_ok-frame.frame c.in_ok-frame.len f c.in_ok-frame.ensures.found s.0 s.1)

pub returns-clause-found : goal.returns-clause-found
returns-clause-found g c =
    let got = c.in_ok-frame.ensures.found in
    text_is_encoding c.in_ok-frame.frame c.args.src.now got.fits (prefix_is_whole c.args.src.now c.in_ok-frame.len got c.if-len-src.false)
