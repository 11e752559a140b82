-- How messages are encoded.
-- Formats: Frames
use Rattle.std.proofs.Common.{◌≡◌, ℕ, ◌<◌, ◌≤◌, Bool, true, List, Option, refl, arith}
use Rattle.std.specs.Prelude.{nat_le, nat_lt, ◌&&◌}
use Rattle.std.proofs.lemmas.Bool.{leb-true, le-leb, ltb-true, lt-ltb, and_parts}
use Rattle.byteorder.specs.Endian.{big_bytes}
use Rattle.ring_payload.specs.Base.{max_number, IsProc, RingId}
use Rattle.ring_payload.specs.Codecs.{IsFormat, tested_at, mapped_at, ◌⊕◌, Format, u64_field, ◌&◌, tested_fields_format, proc, proc_encoding, ring, ring_encoding}
use Rattle.ring_payload.specs.Codecs.{RingFits}
pub use Rattle.ring_payload.specs.declared.content.Payload.{Payload}
use Rattle.ring_payload.specs.declared.content.Payload.TheVariants.{Call, Wrapped, End, Head, Part, Pack, Snap}
use Rattle.ring_payload.specs.Payloads.{payload, payload_encoding, PayloadFits}
use Rattle.ring_wire.specs.declared.message.Message.{Message}

-- ---- a Wrapped is of an older ring than its message

-- the old ring of a Wrapped has a lower number than the ring in which it is sent; true of every other payload
abbrev pub IsOlder : {A : Type 0} → Payload A → RingId → Type 0
IsOlder (Wrapped w) r = w.ring.seq < r.seq
IsOlder _ r = Unit {0}

-- `IsOlder` as a test
abbrev pub is_wrapped_older : {A : Type 0} → Payload A → RingId → Bool
is_wrapped_older (Wrapped w) r = nat_lt w.ring.seq r.seq
is_wrapped_older _ r = true

is_wrapped_older-true : {A : Type 0} (p : Payload A) (r : RingId) → is_wrapped_older p r ≡ true → IsOlder p r
is_wrapped_older-true (Wrapped w) r h = ltb-true _ _ h
is_wrapped_older-true (Call x) r h = tt
is_wrapped_older-true End r h = tt
is_wrapped_older-true (Head x) r h = tt
is_wrapped_older-true (Part x) r h = tt
is_wrapped_older-true (Pack x) r h = tt
is_wrapped_older-true (Snap x) r h = tt

true-is_wrapped_older : {A : Type 0} (p : Payload A) (r : RingId) → IsOlder p r → is_wrapped_older p r ≡ true
true-is_wrapped_older (Wrapped w) r h = lt-ltb _ _ h
true-is_wrapped_older (Call x) r h = refl
true-is_wrapped_older End r h = refl
true-is_wrapped_older (Head x) r h = refl
true-is_wrapped_older (Part x) r h = refl
true-is_wrapped_older (Pack x) r h = refl
true-is_wrapped_older (Snap x) r h = refl

-- ---- the message: its ring in 9 bytes, its number in 8, its sender in one, and its payload

-- the encoding of a message
abbrev pub message_encoding : {A : Type 0} → Message A → List ℕ
message_encoding m = ring_encoding m.ring ⊕ big_bytes 8 m.number ⊕ proc_encoding m.sender ⊕ payload_encoding m.payload

-- the limits of a message: the numbers of ring and message are at least 1, and the ring of a Wrapped is older
pub record MessageFits {A : Type 0} (m : Message A) : Type 0 where
  pub ring : RingFits m.ring
  pub ring_counted : 1 ≤ m.ring.seq
  pub number_counted : 1 ≤ m.number
  pub number : m.number ≤ max_number
  pub sender : IsProc m.sender
  pub payload : PayloadFits m.payload
  pub older : IsOlder m.payload m.ring

-- whether the fields are within their limits, as a test
abbrev pub message_test : {A : Type 0} → Message A → Bool
message_test m = nat_le 1 m.ring.seq && (nat_le 1 m.number && (nat_le m.number max_number && is_wrapped_older m.payload m.ring))

-- the fields of a message, in order
abbrev message_fields : {A : Type 0} → Format (RingId × (ℕ × (ℕ × Payload A)))
message_fields = ring & u64_field & proc & payload

-- the message with these fields
abbrev from_fields : {A : Type 0} → RingId × (ℕ × (ℕ × Payload A)) → Message A
from_fields p = record { ring = p.0; number = p.1.0; sender = p.1.1.0; payload = p.1.1.1 }

-- reads a message from the front
unfoldable pub message_at : {A : Type 0} → List ℕ → Option (Message A × List ℕ)
message_at {A} bytes = tested_at message_test (mapped_at from_fields (message_fields {A = A}).at) bytes

-- a message is read exactly
pub message_format : {A : Type 0} → IsFormat {A = Message A} message_encoding MessageFits message_at
unfolding message_at
message_format {A} = tested_fields_format (message_fields {A = A}) from_fields message_test message_encoding MessageFits (record {
  encoded = λ p. refl;
  fits = λ p f passed.
      let a = and_parts _ _ passed in
      let b = and_parts _ _ a.1 in
      let c = and_parts _ _ b.1 in
      record {
        ring = f.0;
        ring_counted = leb-true _ _ a.0;
        number_counted = leb-true _ _ b.0;
        number = leb-true _ _ c.0;
        sender = f.1.1.0;
        payload = f.1.1.1;
        older = is_wrapped_older-true p.1.1.1 p.0 c.1;
      };
  back = λ m f. ((m.ring, (m.number, (m.sender, m.payload))), (f.ring, (omega (arith, f.number), (f.sender, f.payload))), refl);
  passes = λ m f. rw (le-leb _ _ f.ring_counted, le-leb _ _ f.number_counted, le-leb _ _ f.number, true-is_wrapped_older m.payload m.ring f.older) refl;
})

-- the format of messages
abbrev pub message : {A : Type 0} → Format (Message A)
message = record { encoding = message_encoding; Fits = MessageFits; at = message_at; exact = message_format }
