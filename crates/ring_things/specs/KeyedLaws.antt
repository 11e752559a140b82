-- The encoding and the decoding of operations of a code, a key and a value are inverse to each other.
use Rattle.std.proofs.Common.{◌≡◌, ℕ, ◌<◌, ◌==◌, List, [], ◌∷◌, length, Option, Some, refl, sym, ap, subst, eqb-true}
use Rattle.std.proofs.lemmas.Bool.{cond_both}
use Rattle.std.proofs.lemmas.List.{nil_from_length}
use Rattle.std.proofs.lemmas.List.Elements.{All-head}
use Rattle.std.proofs.lemmas.Option.{same_Some}
use Rattle.ring_base.proofs.Cases.{map_some}
use Rattle.ring_object.specs.Bytes.{AreBytes}
use Rattle.ring_things.specs.Numbers.{big_number-lt, exact_8}
use Rattle.ring_things.specs.Outcome.{value_bytes, value_in, ValueFits}
use Rattle.ring_things.specs.ReplyBytes.{AreBytes-rest}
use Rattle.ring_things.specs.OutcomeLaws.{value_in-bytes}
use Rattle.ring_things.specs.KeyedOperation.{encoding, decoding, KeyedFits}
use Rattle.ring_things.specs.Reads.{Reads}
use Rattle.ring_things.specs.declared.keyed_operation.KeyedOperation.{KeyedOperation}

-- The bytes of an operation are decoded to it.
pub encoded_read : (keyed : KeyedOperation) → ValueFits keyed.value → decoding (encoding keyed) ≡ Some keyed
encoded_read keyed fits = rw (value_in-bytes keyed.value fits) refl

-- A decoded value has 8 bytes, and the bytes are its encoding.
IsValue : List ℕ → Option (Option ℕ) → Type 0
IsValue bytes found = (value : Option ℕ) → found ≡ Some value → ValueFits value × (value_bytes value ≡ bytes)

value_in-is : (bytes : List ℕ) → AreBytes bytes → IsValue bytes (value_in bytes)
unfolding IsValue
value_in-is bytes are =
    let P = λ (value : Option ℕ). ValueFits value × (value_bytes value ≡ bytes) in
    cond_both (length bytes == 0) _ _ (IsValue bytes)
    (λ none value found. subst P (same_Some _ _ found) (tt, sym (nil_from_length bytes (eqb-true _ _ none))))
    (λ _. cond_both (length bytes == 8) _ _ (IsValue bytes)
    (λ eight value found. subst P (same_Some _ _ found) (big_number-lt 8 bytes are, exact_8 bytes (eqb-true _ _ eight) are))
    (λ _ value found. absurd cc))

only : (bytes : List ℕ) (keyed : KeyedOperation) → AreBytes bytes → decoding bytes ≡ Some keyed → KeyedFits keyed × (encoding keyed ≡ bytes)
unfolding IsValue
only [] keyed are is = absurd cc
only (code ∷ []) keyed are is = absurd cc
only (code ∷ key ∷ rest) keyed are is =
    let others = AreBytes-rest code (key ∷ rest) are in
    let value = map_some _ (value_in rest) keyed is in
    let fits = value_in-is rest (AreBytes-rest key rest others) value.0 value.1 in
    subst (λ (k : KeyedOperation). KeyedFits k × (encoding k ≡ code ∷ key ∷ rest)) value.2 (
      record { code = All-head (λ b. b < 256) code (key ∷ rest) are; key = All-head (λ b. b < 256) key rest others; value = fits.0 },
      ap (λ bytes. code ∷ key ∷ bytes) fits.1,
    )

-- Exactly the bytes of operations within their ranges are decoded, each to its operation.
pub keyed_reads : Reads KeyedFits encoding decoding
keyed_reads = record { same = λ keyed fits. encoded_read keyed fits.value; only = only }
