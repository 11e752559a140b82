-- Bytes stored inline, followed by zeros.
use Rattle.std.proofs.Common.{◌≡◌, ℕ, ◌-◌, ◌≤◌, List, ◌++◌, length, take, drop, replicate}
use Rattle.std.proofs.lemmas.List.{take_at, drop-replicate}

-- the bytes, followed by zeros up to n bytes
abbrev pub padded_bytes : ℕ → List ℕ → List ℕ
padded_bytes n bytes = bytes ++ replicate (n - length bytes) 0

-- the list of n has `len` bytes, followed by zeros
pub record IsPaddedBytes (n len : ℕ) (places : List ℕ) : Type 0 where
  pub fits : len ≤ n
  pub exact : length (take len places) ≡ len
  pub zeros : padded_bytes n (take len places) ≡ places

-- n zeros of which the first were overwritten by the bytes are such a list
pub IsPaddedBytes-overwritten : (n : ℕ) (bytes places : List ℕ) → length bytes ≤ n → places ≡ bytes ++ drop (length bytes)
    (replicate {A = ℕ} n 0) → IsPaddedBytes n (length bytes) places
IsPaddedBytes-overwritten n bytes places le is =
    let rest : drop {A = ℕ} (length bytes) (replicate {A = ℕ} n 0) ≡ replicate (n - length bytes) 0 = drop-replicate (length bytes) n 0 in
    let front : take (length bytes) (bytes ++ replicate (n - length bytes) 0) ≡ bytes = take_at bytes
    (replicate (n - length bytes) 0) (length bytes) (λ i. length bytes) in
    rw (is, rest) (record { fits = le; exact = rw front (λ i. length bytes); zeros = rw front (λ i. bytes ++ replicate (n - length bytes) 0) })
