-- Encodings and decodings that are inverse to each other.
use Rattle.std.proofs.Common.{◌≡◌, ℕ, List, Option, Some, sym, ap, ◌∙◌, subst}
use Rattle.std.specs.Option.{option_and_then}
use Rattle.ring_object.specs.Bytes.{AreBytes}
use Rattle.ring_base.proofs.Cases.{and_then_some}

-- Exactly the encodings of the values that fit are decoded, each to its value.
pub record Reads {T : Type 0} (Fits : T → Type 0) (encoding : T → List ℕ) (decoding : List ℕ → Option T) : Type 0 where
  pub same : (value : T) → Fits value → decoding (encoding value) ≡ Some value
  pub only : (bytes : List ℕ) (value : T) → AreBytes bytes → decoding bytes ≡ Some value → Fits value × (encoding value ≡ bytes)

-- The same for values represented by others, whose encoding is that of their representation.
pub by_parts : {T U : Type 0} (Fits : U → Type 0) (encoding : U → List ℕ) (decoding : List ℕ → Option U) → Reads Fits encoding decoding
    → (parts_of : T → U) (of_parts : U → Option T) → ((value : T) → of_parts (parts_of value) ≡ Some value)
    → ((parts : U) (value : T) → of_parts parts ≡ Some value → parts_of value ≡ parts)
    → Reads (λ (value : T). Fits (parts_of value)) (λ (value : T). encoding (parts_of value)) (λ bytes. option_and_then of_parts (decoding bytes))
by_parts {T = T} Fits encoding decoding reads parts_of of_parts same only = record {
  same = λ value fits. ap (option_and_then of_parts) (reads.same (parts_of value) fits) ∙ same value;
  only = λ bytes value are is.
      let found = and_then_some of_parts (decoding bytes) value is in
      let read = reads.only bytes found.0 are found.1 in
      subst (λ parts. Fits parts × (encoding parts ≡ bytes)) (sym (only found.0 value found.2)) read;
}
