-- A refusal of one parse is a refusal of every other that has no value if that one has none.
use Rattle.std.proofs.Common.{◌≡◌, Option, None}
use Rattle.ring_base.specs.declared.fault.Fault.{Fault}
use Rattle.ring_base.specs.declared.fault.Fault.TheVariants.{NotMember, PendingFull, OpTooLong, Conflict, Stale}
use Rattle.ring_base.specs.declared.fault.Fault.TheVariants.{NumberGap, SessionsFull, Stopped, BookFull, Stranger}
use Rattle.ring_base.specs.declared.fault.Fault.TheVariants.{Memory, BadFrame, BadScript, NoAnswer, BadSnapshot}
use Rattle.ring_script.specs.Reading.{IsBadScript, IsBadScriptOrMemory}

-- A refusal is also one of whatever has no value if this one has none.
pub IsBadScriptOrMemory-passes : {A B : Type 0} (e : Fault) (r : Option A) (s : Option B) → IsBadScriptOrMemory e r → (r ≡ None → s ≡ None) → IsBadScriptOrMemory e s
IsBadScriptOrMemory-passes NotMember r s h f = h
IsBadScriptOrMemory-passes PendingFull r s h f = h
IsBadScriptOrMemory-passes OpTooLong r s h f = h
IsBadScriptOrMemory-passes Conflict r s h f = h
IsBadScriptOrMemory-passes Stale r s h f = h
IsBadScriptOrMemory-passes NumberGap r s h f = h
IsBadScriptOrMemory-passes SessionsFull r s h f = h
IsBadScriptOrMemory-passes Stopped r s h f = h
IsBadScriptOrMemory-passes BookFull r s h f = h
IsBadScriptOrMemory-passes Stranger r s h f = h
IsBadScriptOrMemory-passes Memory r s h f = tt
IsBadScriptOrMemory-passes BadFrame r s h f = h
IsBadScriptOrMemory-passes BadScript r s h f = f h
IsBadScriptOrMemory-passes NoAnswer r s h f = h
IsBadScriptOrMemory-passes BadSnapshot r s h f = h

-- The same if no allocation can fail.
pub IsBadScript-passes : {A B : Type 0} (e : Fault) (r : Option A) (s : Option B) → IsBadScript e r → (r ≡ None → s ≡ None) → IsBadScript e s
IsBadScript-passes NotMember r s h f = h
IsBadScript-passes PendingFull r s h f = h
IsBadScript-passes OpTooLong r s h f = h
IsBadScript-passes Conflict r s h f = h
IsBadScript-passes Stale r s h f = h
IsBadScript-passes NumberGap r s h f = h
IsBadScript-passes SessionsFull r s h f = h
IsBadScript-passes Stopped r s h f = h
IsBadScript-passes BookFull r s h f = h
IsBadScript-passes Stranger r s h f = h
IsBadScript-passes Memory r s h f = h
IsBadScript-passes BadFrame r s h f = h
IsBadScript-passes BadScript r s h f = f h
IsBadScript-passes NoAnswer r s h f = h
IsBadScript-passes BadSnapshot r s h f = h
