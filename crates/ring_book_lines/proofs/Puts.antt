-- The result of appending the bytes of a frame.
use Rattle.std.proofs.Common.{◌≡◌, ℕ, ◌++◌, List, Some, Result, Ok, Err, ap, ◌∙◌}
use Rattle.std.specs.Prelude.{OnOk, OnErr, IfErr}
use Rattle.ring_base.specs.declared.fault.Fault.{Fault}
use Rattle.ring_base.specs.declared.fault.Fault.TheVariants.{Memory}
use Rattle.ring_core_spec.specs.State.{OutgoingFrame}
use Rattle.ring_wire.specs.declared.frame.Frame.{Frame}
use Rattle.ring_wire.specs.Frames.{encoding_of}
use Rattle.ring_book_lines.specs.AppendedFrames.{IsPut}

-- the frame's own bytes
pub put_gives : {A : Type 0} (s : OutgoingFrame A) (frame : Frame A) (old new : List ℕ) (r : Result (Unit {0}) Fault) → frame ≡ s.frame
    → OnOk r (new ≡ old ++ encoding_of frame) → OnErr r (new ≡ old) → IfErr r (λ fault. fault ≡ Memory) → IsPut (Some s) old new r
put_gives {A} s frame old new (Ok done) is ok err refused = ok ∙ ap (λ (f : Frame A). old ++ encoding_of f) is
put_gives s frame old new (Err fault) is ok err refused = (refused, err)
