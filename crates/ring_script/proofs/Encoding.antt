-- The encoding of an operation's arguments, one after another.
use Rattle.std.proofs.Common.{◌≡◌, ℕ, ◌+◌, ◌<◌, ◌≤◌, List, length, drop, get_or, Option, Some, None, refl, sym, ◌∙◌}
use Rattle.ring_base.specs.declared.fault.Fault.{Fault}
use Rattle.std.proofs.lemmas.List.{at_drop_more, at_drop_all}
use Rattle.ring_script.specs.declared.vocabulary.Argument.{Argument}
use Rattle.ring_script.specs.Reading.{IsBadScriptOrMemory}
use Rattle.ring_script.proofs.RefusalsPassOn.{IsBadScriptOrMemory-passes}
use Rattle.ring_script.specs.Operations.{argument_after, arguments_after}

-- The argument at a place, and the ones after it.
pub arguments_more : (bytes : List ℕ) (arguments : List Argument) (i : ℕ) (words : List (List ℕ)) (d : Argument)
    (x : List ℕ × List (List ℕ)) → i < length arguments → argument_after bytes (get_or arguments i d) words ≡ Some x
    → arguments_after bytes (drop i arguments) words ≡ arguments_after x.0 (drop (i + 1) arguments) x.1
unfolding arguments_after
arguments_more bytes arguments i words d x lt e = at_drop_more (λ others. arguments_after bytes others words) arguments i d lt ∙ rw e refl

-- No argument at a place: nothing is encoded.
arguments_none : (bytes : List ℕ) (arguments : List Argument) (i : ℕ) (words : List (List ℕ)) (d : Argument)
    → i < length arguments → argument_after bytes (get_or arguments i d) words ≡ None → arguments_after bytes
    (drop i arguments) words ≡ None
unfolding arguments_after
arguments_none bytes arguments i words d lt e = at_drop_more (λ others. arguments_after bytes others words) arguments i d lt ∙ rw e refl

-- After the last argument.
pub arguments_end : (bytes : List ℕ) (arguments : List Argument) (i : ℕ) (words : List (List ℕ))
    → length arguments ≤ i → arguments_after bytes (drop i arguments) words ≡ Some (bytes, words)
unfolding arguments_after
arguments_end bytes arguments i words le = at_drop_all (λ others. arguments_after bytes others words) arguments i le

-- A refusal of the argument at a place is one of all.
pub arguments_refused : (e : Fault) (bytes : List ℕ) (arguments : List Argument) (i : ℕ) (words : List (List ℕ))
    (d : Argument) (total : Option (List ℕ × List (List ℕ))) → i < length arguments
    → IsBadScriptOrMemory e (argument_after bytes (get_or arguments i d) words) → arguments_after bytes (drop i arguments) words
    ≡ total → IsBadScriptOrMemory e total
arguments_refused e bytes arguments i words d total lt refused so_far =
    IsBadScriptOrMemory-passes e (argument_after bytes (get_or arguments i d) words) total refused (λ none. sym so_far ∙ arguments_none bytes arguments i words d lt none)
