-- Exactly the bytes of replies are decoded, each to its reply.
-- Formats: Operations and replies
use Rattle.std.proofs.Common.{◌≡◌, ℕ, ◌==◌, List, [], ◌∷◌, length, Option, Some, None, refl, sym, ap, ◌∙◌, eqb-true}
use Rattle.std.specs.Prelude.{IfSome}
use Rattle.std.proofs.lemmas.Bool.{cond_both}
use Rattle.std.proofs.lemmas.List.{nil_from_length}
use Rattle.std.proofs.lemmas.Option.{same_Some}
use Rattle.ring_base.proofs.Cases.{map_some}
use Rattle.ring_object.specs.Bytes.{AreBytes}
use Rattle.ring_base.proofs.Cases.{and_then_some}
use Rattle.ring_things.specs.Numbers.{big_number-whole, exact_8}
use Rattle.ring_things.specs.Outcome.{code_of, outcome_of, value_bytes, value_in, encoding, decoding, ValueFits}
use Rattle.ring_things.specs.ReplyBytes.{AreBytes-rest}
use Rattle.ring_things.specs.declared.replies.Outcome.{Outcome}
use Rattle.ring_things.specs.declared.replies.Outcome.TheVariants.{Done, NotDone, Full, Unreadable}
use Rattle.ring_things.specs.declared.replies.ReplyParts.{ReplyParts}

outcome_of-code : (outcome : Outcome) → outcome_of (code_of outcome) ≡ Some outcome
outcome_of-code Done = refl
outcome_of-code NotDone = refl
outcome_of-code Full = refl
outcome_of-code Unreadable = refl

-- The bytes of an optional value are decoded to it.
pub value_in-bytes : (value : Option ℕ) → ValueFits value → value_in (value_bytes value) ≡ Some value
value_in-bytes (Some value) fits = ap (λ n. Some (Some n)) (big_number-whole 8 value fits)
value_in-bytes None fits = refl

-- The bytes of a reply are decoded to it.
pub decoding-encoding : (replied : ReplyParts) → ValueFits replied.value → decoding (encoding replied) ≡ Some replied
decoding-encoding replied fits = rw (outcome_of-code replied.outcome, value_in-bytes replied.value fits) refl

-- The outcome that a byte encodes has this byte as its code.
IsCode : ℕ → Option Outcome → Type 0
IsCode code found = (outcome : Outcome) → found ≡ Some outcome → code_of outcome ≡ code

code_of-outcome : (code : ℕ) → IsCode code (outcome_of code)
unfolding IsCode
code_of-outcome code =
    cond_both (code == 0) _ _ (IsCode code) (λ is outcome found. ap code_of (sym (same_Some _ _ found)) ∙ sym (eqb-true _ _ is))
    (λ _. cond_both (code == 1) _ _ (IsCode code) (λ is outcome found. ap code_of (sym (same_Some _ _ found)) ∙ sym (eqb-true _ _ is))
    (λ _. cond_both (code == 2) _ _ (IsCode code) (λ is outcome found. ap code_of (sym (same_Some _ _ found)) ∙ sym (eqb-true _ _ is))
    (λ _. cond_both (code == 255) _ _ (IsCode code) (λ is outcome found. ap code_of (sym (same_Some _ _ found)) ∙ sym (eqb-true _ _ is))
    (λ _ outcome found. absurd cc))))

-- A decoded value is encoded to the bytes.
HasBytes : List ℕ → Option (Option ℕ) → Type 0
HasBytes bytes found = (value : Option ℕ) → found ≡ Some value → value_bytes value ≡ bytes

value_bytes-value : (bytes : List ℕ) → AreBytes bytes → HasBytes bytes (value_in bytes)
unfolding HasBytes
value_bytes-value bytes are =
    cond_both (length bytes == 0) _ _ (HasBytes bytes)
    (λ none value found. ap value_bytes (sym (same_Some _ _ found)) ∙ sym (nil_from_length bytes (eqb-true _ _ none)))
    (λ _. cond_both (length bytes == 8) _ _ (HasBytes bytes)
    (λ eight value found. ap value_bytes (sym (same_Some _ _ found)) ∙ exact_8 bytes (eqb-true _ _ eight) are)
    (λ _ value found. absurd cc))

-- A decoded reply is encoded to the bytes.
pub encoding-decoding : (bytes : List ℕ) (replied : ReplyParts) → AreBytes bytes → decoding bytes ≡ Some replied → encoding replied ≡ bytes
unfolding IsCode HasBytes
encoding-decoding [] replied are is = absurd cc
encoding-decoding (code ∷ rest) replied are is =
    let outcome = and_then_some _ (outcome_of code) replied is in
    let value = map_some _ (value_in rest) replied outcome.2 in
    let first : code_of outcome.0 ≡ code = code_of-outcome code outcome.0 outcome.1 in
    let others : value_bytes value.0 ≡ rest = value_bytes-value rest (AreBytes-rest code rest are) value.0 value.1 in
    ap encoding (sym value.2) ∙ rw (first, others) refl

-- The same, for a result that equals the decoding.
pub found-decoding : (bytes : List ℕ) (read : Option ReplyParts) → AreBytes bytes → read ≡ decoding bytes → IfSome read (λ replied. encoding replied ≡ bytes)
found-decoding bytes (Some replied) are is = encoding-decoding bytes replied are (sym is)
found-decoding bytes None are is = tt
