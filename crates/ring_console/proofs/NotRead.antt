-- An input that is no script is not read as one.
use Rattle.std.proofs.Common.{◌≡◌, ℕ, List, Option, Some, Ok, subst}
use Rattle.ring_script.specs.Operations.{OperationForm}
use Rattle.ring_script.specs.Scripts.{IsAllOf, IsScriptOfInputBy, schedule_by}
use Rattle.ring_script.specs.ScriptTexts.{IsNoScript}
use Rattle.ring_script.specs.declared.scripts.Script.{Script}

-- If all bytes of an input are known and are no script, no script was read of it.
pub no_script_read : {A : Type 0} (forms : List OperationForm) (script : Script A) (known : Option (List ℕ)) (read bytes : List ℕ)
    → IsAllOf known read → IsScriptOfInputBy forms (Ok script) read → known ≡ Some bytes → IsNoScript forms bytes → ⊥
no_script_read forms script known read bytes all answers is none =
    let same : read ≡ bytes = subst (λ (k : Option (List ℕ)). IsAllOf k read) is all in
    let found = subst (λ (b : List ℕ). IsScriptOfInputBy forms (Ok script) b) same answers in
    none (found.0, (schedule_by script, found.1))
