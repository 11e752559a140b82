-- The frames of two lists of sends; and a delivered frame, which was sent and keeps the limits where each sent frame
-- does.
use Rattle.std.proofs.Common.{◌≡◌, List, ℕ, zero, suc, Some, None, Option, refl, subst}
use Rattle.std.specs.List.{AllByRecursion as Each}
use Rattle.std.proofs.lemmas.Option.{cond_some}
use Rattle.ring_base.specs.Processors.{has}
use Rattle.ring_base.proofs.Each.{each-get}
use Rattle.ring_core_spec.specs.State.{Transmission, frame_at, frame_for}
use Rattle.ring_token.specs.Frames.{FrameFits, Frame}

-- the frame of a number keeps the limits, where each does
pub at_fits : {A : Type 0} (frames : List (Transmission A)) (k : ℕ) (f : Transmission A) → Each (λ (g : Transmission A). FrameFits g.frame) frames → frame_at frames k ≡ Some f →
    FrameFits f.frame
at_fits frames zero f h e = absurd (let x : ⊥ = cc in x)
at_fits {A} frames (suc k) f h e = each-get (λ (g : Transmission A). FrameFits g.frame) frames k f h e

-- and so does a frame that is delivered
pub one_fits : {A : Type 0} (o : Option (Transmission A)) (i : ℕ) (frame : Frame A) → ((f : Transmission A) → o ≡ Some f → FrameFits f.frame) → frame_for i o ≡ Some frame →
    FrameFits frame
one_fits None i frame h e = absurd (let x : ⊥ = cc in x)
one_fits (Some f) i frame h e = subst FrameFits (cond_some (has f.to i) f.frame frame e).1 (h f refl)
