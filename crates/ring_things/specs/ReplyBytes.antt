-- Bytes of replies and operations: that they are bytes, and that replies are short.
use Rattle.std.proofs.Common.{ℕ, zero, suc, ◌/◌, ◌^◌, ◌<◌, List, [], ◌∷◌, take, drop, arith, mod-lt}
use Rattle.std.specs.Int.{bytes_high_first, byte_at}
use Rattle.std.proofs.lemmas.List.Elements.{All-nil, All-cons, All-tail, All-drop, All-take}
use Rattle.byteorder.specs.Endian.{big_bytes}
use Rattle.byteorder.specs.Numbers.{length-bytes_high_first}
use Rattle.ring_object.specs.Bytes.{AreBytes}
use Rattle.ring_object.specs.Operations.{IsReply}

-- Bytes without their first byte are bytes.
pub AreBytes-rest : (byte : ℕ) (bytes : List ℕ) → AreBytes (byte ∷ bytes) → AreBytes bytes
AreBytes-rest byte bytes are = All-tail (λ b. b < 256) byte bytes are

-- A prefix of bytes is bytes.
pub AreBytes-take : (n : ℕ) (bytes : List ℕ) → AreBytes bytes → AreBytes (take n bytes)
AreBytes-take n bytes are = All-take (λ b. b < 256) n bytes are

-- Bytes without their first n are bytes.
pub AreBytes-drop : (n : ℕ) (bytes : List ℕ) → AreBytes bytes → AreBytes (drop n bytes)
AreBytes-drop n bytes are = All-drop (λ b. b < 256) n bytes are

byte_at-lt : (i number : ℕ) → byte_at i number < 256
byte_at-lt zero number = mod-lt number (omega arith)
byte_at-lt (suc i) number = mod-lt (number / 256 ^ suc i) (omega arith)

-- The big-endian encoding of a number is bytes.
pub AreBytes-big_bytes : (width number : ℕ) → AreBytes (big_bytes width number)
AreBytes-big_bytes zero number = All-nil (λ b. b < 256)
AreBytes-big_bytes (suc width) number =
    All-cons (λ b. b < 256) (byte_at width number) (bytes_high_first width number) (byte_at-lt width number) (AreBytes-big_bytes width number)

-- One byte is a reply.
pub code_fits : (code : ℕ) → code < 256 → IsReply (code ∷ [])
code_fits code fits = (omega arith, All-cons (λ b. b < 256) code [] fits (All-nil (λ b. b < 256)))

-- A byte and a value of 8 bytes are a reply.
pub code_and_value_fits : (code value : ℕ) → code < 256 → IsReply (code ∷ big_bytes 8 value)
code_and_value_fits code value fits = (
  omega (arith, length-bytes_high_first 8 value),
  All-cons (λ b. b < 256) code (big_bytes 8 value) fits (AreBytes-big_bytes 8 value),
)
