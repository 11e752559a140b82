-- How operations are encoded: the length, and the bytes.
-- Formats: Numbers and parts
use Rattle.std.proofs.Common.{ℕ, ◌≤◌, List, length, Option, refl, arith}
use Rattle.std.specs.Prelude.{nat_le}
use Rattle.std.proofs.lemmas.Bool.{leb-true, le-leb}
use Rattle.byteorder.specs.Endian.{big_bytes}
use Rattle.ring_codec.specs.Reading.{IsFormat, mapped_at, ◌⊕◌}
use Rattle.ring_codec.specs.Formats.{Format, u16_field, text, dependent_pair_format, tested_format, fields_format}
use Rattle.ring_payload.specs.Limits.{max_operation}

-- the encoding of an operation: its length in 2 bytes, then its bytes
abbrev pub op_encoding : List ℕ → List ℕ
op_encoding o = big_bytes 2 (length o) ⊕ o

-- the limit of an operation: at most 1,024 bytes
abbrev pub OpFits : List ℕ → Type 0
OpFits o = length o ≤ max_operation

-- the length and the bytes
abbrev op_fields : Format (ℕ × List ℕ)
op_fields = dependent_pair_format (tested_format (λ n. nat_le n max_operation) u16_field) text

-- reads an operation from the front
unfoldable pub op_at : List ℕ → Option (List ℕ × List ℕ)
op_at bytes = mapped_at (λ p. p.1) op_fields.at bytes

-- an operation is read exactly
pub op_format : IsFormat op_encoding OpFits op_at
unfolding op_at
op_format = fields_format op_fields (λ p. p.1) op_encoding OpFits (record {
  encoded = λ p f. rw f.1 refl;
  fits = λ p f. omega (arith, leb-true p.0 max_operation f.0.1, f.1);
  back = λ o f. ((length o, o), ((omega (arith, f), le-leb (length o) max_operation f), refl), refl);
})

-- the format of operations
abbrev pub op : Format (List ℕ)
op = record { encoding = op_encoding; Fits = OpFits; at = op_at; exact = op_format }
