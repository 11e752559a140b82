-- Lists of bytes.
use Rattle.std.proofs.Common.{ℕ, ◌<◌, List, All, length, get_or, Fits, w8, inl, inr, arith}
use Rattle.std.proofs.lemmas.Bool.{cases_lt}
use Rattle.std.proofs.lemmas.List.{get_or_past}
use Rattle.std.proofs.lemmas.List.Elements.{All-get_or, All-from_get_or}

-- each element is a byte: below 256
abbrev pub AreBytes : List ℕ → Type 0
AreBytes bytes = All (λ byte. byte < 256) bytes

-- the element at each index is a byte, and 0 past the end
pub AreBytes-get_or : (bytes : List ℕ) → AreBytes bytes → (i : ℕ) → get_or bytes i 0 < 256
AreBytes-get_or bytes are i =
    elim (cases_lt i (length bytes)) [
      | inl within ↦ All-get_or (λ byte. byte < 256) bytes i 0 within are
      | inr past ↦ rw (get_or_past bytes i 0 past) (omega arith)
    ]

-- a list whose elements fit in 8 bits is bytes
pub AreBytes-fits : (bytes : List ℕ) → ((i : ℕ) → Fits w8 (get_or bytes i 0)) → AreBytes bytes
AreBytes-fits bytes fits = All-from_get_or (λ byte. byte < 256) bytes 0 (λ i within. omega (arith, fits i))
