-- A refusal that is Stopped or Memory: which of the two it is.
use Rattle.std.proofs.Common.{◌≡◌, Bool, true, false, if◌then◌else◌, refl, ◌∙◌, sym}
use Rattle.ring_base.specs.declared.fault.Fault.{Fault}
use Rattle.ring_base.specs.declared.fault.Fault.TheVariants.{Memory, Stopped as StoppedFault}

pub was_stopped : (b : Bool) (f : Fault) → f ≡ (if b then StoppedFault else Memory) → f ≡ StoppedFault → b ≡ true
was_stopped true f a e = refl
was_stopped false f a e = absurd (cc (sym a ∙ e))

pub was_running : (b : Bool) (f : Fault) → f ≡ (if b then StoppedFault else Memory) → (f ≡ StoppedFault → ⊥) → b ≡ false
was_running true f a e = absurd (e a)
was_running false f a e = refl
