-- A frame read from all of the bytes is the one that they encode.
use Rattle.std.proofs.Common.{◌≡◌, ℕ, List, length, Option, Some, None}
use Rattle.std.specs.Prelude.{IfSome, IsSome}
use Rattle.ring_wire.specs.declared.frame.Frame.{Frame as OneFrame}
use Rattle.ring_wire.specs.Frames.{FrameFits, encoding_of, frame_format}
use Rattle.ring_wire.specs.Prefixes.{IsEncodedPrefix, prefix_is_whole, prefix_of_whole_encoding}
use Rattle.ring_wire.specs.IsFrameEncoding.{IsFrameEncoding}
use Rattle.ring_wire.specs.FrameEncodingLaws.{frame_encoding_of_grammar}
use Rattle.ring_host.specs.Tasks.{IsRead}

pub got-read : {A : Type 0} (place : Option (OneFrame A)) (bytes : List ℕ) (n : ℕ) → IfSome place (λ frame. IsEncodedPrefix encoding_of FrameFits bytes frame n)
    → IsSome place → n ≡ length bytes → IsRead place bytes
got-read None bytes n got some whole = absurd (cc some)
got-read (Some frame) bytes n got some whole = (got.fits, prefix_is_whole bytes n got whole)

-- Bytes of which a read left some over encode no frame.
pub got-none : {A : Type 0} (place : Option (OneFrame A)) (bytes : List ℕ) (n : ℕ) → IfSome place (λ frame. IsEncodedPrefix encoding_of FrameFits bytes frame n)
    → IsSome place → ¬ (n ≡ length bytes) → (frame : OneFrame A) → ¬ IsFrameEncoding frame bytes
got-none None bytes n got some part frame encodes = absurd (cc some)
got-none (Some x) bytes n got some part frame encodes =
    let s = frame_encoding_of_grammar frame bytes encodes in part (prefix_of_whole_encoding frame_format bytes x n frame got s.0 s.1)
