-- Calls, and how they are encoded: the client, the number, the operation.
-- Rules: Refusals 4
-- Formats: Numbers and parts
use Rattle.std.proofs.Common.{◌≡◌, ℕ, ◌+◌, ◌^◌, ◌<◌, ◌≤◌, List, length, Option, Result, Ok, Err, refl}
use Rattle.std.specs.Prelude.{nat_le}
use Rattle.std.proofs.lemmas.Bool.{leb-true, le-leb}
use Rattle.byteorder.specs.Endian.{big_bytes}
use Rattle.ring_codec.specs.BaseReexports.{Fault}
use Rattle.ring_codec.specs.FaultReexports.{Memory, OpTooLong, NumberGap}
use Rattle.ring_codec.specs.Reading.{IsFormat, mapped_at, ◌⊕◌}
use Rattle.ring_codec.specs.Formats.{Format, u32_field, u64_field, ◌&◌, tested_format, fields_format}
use Rattle.ring_payload.specs.declared.call.Call.{Call}
use Rattle.ring_payload.specs.Limits.{max_operation}
use Rattle.ring_payload.specs.Operations.{op, op_encoding, OpFits}

-- the call with this client, number and operation
abbrev pub call_of : {A : Type 0} → ℕ → ℕ → List ℕ → Call A
call_of client number bytes = record { client = client; number = number; op = bytes }

-- the result of making a call: `OpTooLong` first, then `NumberGap`, then `Memory`; otherwise the call
abbrev pub IsNewCall : {A : Type 0} → ℕ → ℕ → List ℕ → Result (Call A) Fault → Type 0
IsNewCall client number bytes (Ok c) = (length bytes ≤ max_operation) × (1 ≤ number) × (c ≡ call_of client number bytes)
IsNewCall client number bytes (Err OpTooLong) = max_operation < length bytes
IsNewCall client number bytes (Err NumberGap) = (length bytes ≤ max_operation) × (number ≡ 0)
IsNewCall client number bytes (Err Memory) = (length bytes ≤ max_operation) × (1 ≤ number)
IsNewCall client number bytes (Err _) = ⊥

-- the length of a call's encoding: 14 bytes for client, number and length, plus the operation
abbrev pub call_bytes : {A : Type 0} → Call A → ℕ
call_bytes c = 14 + length c.op

-- the encoding of a call: its client in 4 bytes, its number in 8, and its length-prefixed operation
abbrev pub call_encoding : {A : Type 0} → Call A → List ℕ
call_encoding c = big_bytes 4 c.client ⊕ big_bytes 8 c.number ⊕ op_encoding c.op

-- the limits of a call: a number of at least 1, and an operation of at most 1,024 bytes
pub record CallFits {A : Type 0} (c : Call A) : Type 0 where
  pub client : c.client < 2 ^ 32
  pub number : 1 ≤ c.number
  pub number_fits : c.number < 2 ^ 64
  pub op : OpFits c.op

-- the fields of a call, in order
abbrev call_fields : Format (ℕ × (ℕ × List ℕ))
call_fields = u32_field & tested_format (λ n. nat_le 1 n) u64_field & op

-- the call with these fields
abbrev from_fields : {A : Type 0} → ℕ × (ℕ × List ℕ) → Call A
from_fields p = call_of p.0 p.1.0 p.1.1

-- reads a call from the front
unfoldable pub call_at : {A : Type 0} → List ℕ → Option (Call A × List ℕ)
call_at bytes = mapped_at from_fields call_fields.at bytes

-- a call is read exactly
pub call_format : {A : Type 0} → IsFormat {A = Call A} call_encoding CallFits call_at
unfolding call_at
call_format = fields_format call_fields from_fields call_encoding CallFits (record {
  encoded = λ p f. refl;
  fits = λ p f. record { client = f.0; number = leb-true _ _ f.1.0.1; number_fits = f.1.0.0; op = f.1.1 };
  back = λ c f. ((c.client, (c.number, c.op)), (f.client, ((f.number_fits, le-leb _ _ f.number), f.op)), refl);
})

-- the format of calls
abbrev pub call : {A : Type 0} → Format (Call A)
call = record { encoding = call_encoding; Fits = CallFits; at = call_at; exact = call_format }
