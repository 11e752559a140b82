-- The bytes of an input that was read whole.
use Rattle.std.proofs.Common.{◌≡◌, ℕ, ◌<◌, List, [], ◌++◌, length, take, Option, Some, None, Err, inl, refl, ap, ◌∙◌, arith}
use Rattle.std.specs.Prelude.{IfSome, option_map, unwrap_or}
use Rattle.std.proofs.lemmas.List.{length-take, take_all}
use Rattle.ring_script.specs.declared.scripts.ScriptFault.{ScriptFault}
use Rattle.ring_script.specs.declared.scripts.ScriptFault.TheVariants.{Memory, AtLine}
use Rattle.ring_script.specs.Operations.{OperationForm}
use Rattle.ring_script.specs.Scripts.{IsAllOf, IsScriptOfInputBy, IsInputFault}

-- Bytes read up to a limit, fewer than the limit, are all of the input.
pub whole_below : (limit : ℕ) (known : Option (List ℕ)) (bytes : List ℕ) → IfSome (option_map (take limit) known)
    (λ xs. bytes ≡ [] ++ xs) → length bytes < limit → IsAllOf known bytes
whole_below limit None bytes e lt = tt
whole_below limit (Some xs) bytes e lt =
    let same : bytes ≡ take limit xs = e in
    same ∙ take_all limit xs (omega (arith, ap length same, length-take limit xs))

-- Some bytes are all of an input.
pub whole_is : (known : Option (List ℕ)) → IsAllOf known (unwrap_or known [])
whole_is None = tt
whole_is (Some xs) = refl

-- An input that can't be read has this result, whatever its bytes are.
pub unread : (A : Type 0) (forms : List OperationForm) (fault : ScriptFault) (bytes : List ℕ) → IsInputFault fault → IsScriptOfInputBy {A = A} forms (Err fault) bytes
unread A forms Memory bytes refused = tt
unread A forms (AtLine line) bytes refused = inl refused
