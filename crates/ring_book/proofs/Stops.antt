-- The cases in which a node's step is refused.
use Rattle.std.proofs.Common.{◌≡◌, Bool, true, false, refl, sym, subst}
use Rattle.std.specs.Prelude.{if◌then◌else◌, Option, MatchOption}
use Rattle.ring_book.specs.Cells.{IsRefusal}
use Rattle.ring_base.specs.declared.fault.Fault.{Fault}
use Rattle.ring_base.specs.declared.fault.Fault.TheVariants.{Memory, Stopped as StoppedFault}

-- a fact of either fault with which a node refuses a step: it has stopped, or memory was refused to it while it ran
pub by_refusal : (P : Fault → Type 0) (b : Bool) (fault : Fault) → fault ≡ (if b then StoppedFault else Memory) → (b ≡ true → P StoppedFault)
    → (b ≡ false → P Memory) → P fault
by_refusal P true fault h stopped memory = subst P (sym h) (stopped refl)
by_refusal P false fault h stopped memory = subst P (sym h) (memory refl)

-- a node refuses where its cell is not a step ahead
pub node_refuses : (ahead : Bool) (refusal : Option Fault) (fault : Fault) → ahead ≡ false → MatchOption refusal
    (fault ≡ Memory) (λ first. fault ≡ first) → IsRefusal ahead refusal fault
node_refuses true refusal fault e h = absurd cc
node_refuses false refusal fault e h = h
