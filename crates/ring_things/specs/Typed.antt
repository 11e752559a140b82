-- Objects with typed operations: replies and contents are defined on decoded operations, and the laws of objects follow.
-- Rules: Objects 1 and 2
use Rattle.std.proofs.Common.{◌≡◌, ℕ, ◌<◌, Bool, false, List, ◌∷◌, Option, Some, None, is_some, refl, arith}
use Rattle.std.specs.Option.{option_map}
use Rattle.ring_base.proofs.Cases.{none_of}
use Rattle.ring_object.specs.Bytes.{AreBytes}
use Rattle.ring_object.specs.Operations.{IsReply, Sequential, unreadable_reply}
use Rattle.ring_things.specs.Outcome.{code_of, encoding, value_bytes}
use Rattle.ring_things.specs.ReplyBytes.{code_fits, code_and_value_fits}
pub use Rattle.ring_things.specs.declared.replies.Outcome.{Outcome}
pub use Rattle.ring_things.specs.declared.replies.Outcome.TheVariants.{Done, NotDone, Full, Unreadable}
pub use Rattle.ring_things.specs.declared.replies.ReplyParts.{ReplyParts}
use Rattle.ring_things.specs.Reads.{Reads}

-- The operation was done, and the reply has no value.
abbrev pub done : ReplyParts
done = record { outcome = Done; value = None }

-- The operation was done, and the reply has a value.
abbrev pub done_with : ℕ → ReplyParts
done_with value = record { outcome = Done; value = Some value }

-- The content didn't allow the operation, and the reply has a value.
abbrev pub not_done_with : ℕ → ReplyParts
not_done_with value = record { outcome = NotDone; value = Some value }

-- The bytes of a reply; the byte `FF` for an operation that couldn't be decoded.
abbrev pub replied : Option ReplyParts → List ℕ
replied (Some reply) = encoding reply
replied None = unreadable_reply

-- The content after a decoded operation; unchanged if none was decoded.
abbrev pub after_read : {C T : Type 0} → (C → T → C) → C → Option T → C
after_read after content (Some op) = after content op
after_read after content None = content

-- Whether the bytes decode to an operation.
abbrev pub is_read : {T : Type 0} → (List ℕ → Option T) → List ℕ → Bool
is_read decoding bytes = is_some (decoding bytes)

-- The object with this start content, decoding, reply, next content, snapshot and restoring.
abbrev pub typed : {C T : Type 0} → C → (List ℕ → Option T) → (C → T → ReplyParts) → (C → T → C) → (C → List ℕ) → (List ℕ → Option C) → Sequential C
typed initial decoding reply_to after snapshot_of restored = record {
  initial = initial;
  reply = λ content bytes. replied (option_map (reply_to content) (decoding bytes));
  next = λ content bytes. after_read after content (decoding bytes);
  snapshot_of = snapshot_of;
  restored = restored;
}

code_of-lt : (outcome : Outcome) → code_of outcome < 256
code_of-lt Done = omega arith
code_of-lt NotDone = omega arith
code_of-lt Full = omega arith
code_of-lt Unreadable = omega arith

reply_fits : (outcome : Outcome) (value : Option ℕ) → IsReply (code_of outcome ∷ value_bytes value)
reply_fits outcome (Some value) = code_and_value_fits (code_of outcome) value (code_of-lt outcome)
reply_fits outcome None = code_fits (code_of outcome) (code_of-lt outcome)

replied_fits : (answer : Option ReplyParts) → IsReply (replied answer)
replied_fits (Some reply) = reply_fits reply.outcome reply.value
replied_fits None = code_fits 255 (omega arith)

-- Each reply has at most 64 bytes.
pub typed_replies : {C T : Type 0} (IsContent : C → Type 0) (decoding : List ℕ → Option T) (reply_to : C → T → ReplyParts)
    (content : C) (bytes : List ℕ) → AreBytes bytes → IsContent content → IsReply (replied (option_map (reply_to content) (decoding bytes)))
typed_replies IsContent decoding reply_to content bytes are is = replied_fits (option_map (reply_to content) (decoding bytes))

-- Bytes that are no operation get the reply `FF` and change nothing.
pub typed_ignores : {C T : Type 0} (decoding : List ℕ → Option T) (reply_to : C → T → ReplyParts) (after : C → T → C)
    (content : C) (bytes : List ℕ) → is_read decoding bytes ≡ false →
    (replied (option_map (reply_to content) (decoding bytes)) ≡ unreadable_reply) × (after_read after content (decoding bytes) ≡ content)
typed_ignores decoding reply_to after content bytes none = rw (none_of (decoding bytes) none) (refl, refl)

kept : {C T : Type 0} (IsContent : C → Type 0) (after : C → T → C) (content : C) (found : Option T)
    → ((op : T) → found ≡ Some op → IsContent (after content op)) → IsContent content → IsContent (after_read after content found)
kept IsContent after content (Some op) keeps is = keeps op refl
kept IsContent after content None keeps is = is

-- Every operation leads from a content to a content, if every decoded operation that fits does.
pub typed_keeps : {C T : Type 0} (IsContent : C → Type 0) (Fits : T → Type 0) (encoding : T → List ℕ) (decoding : List ℕ → Option T)
    → Reads Fits encoding decoding → (after : C → T → C)
    → ((content : C) (op : T) → Fits op → IsContent content → IsContent (after content op))
    → (content : C) (bytes : List ℕ) → AreBytes bytes → IsContent content → IsContent (after_read after content (decoding bytes))
typed_keeps IsContent Fits encoding decoding reads after keeps content bytes are is =
    kept IsContent after content (decoding bytes) (λ op found. keeps content op (reads.only bytes op are found).0 is) is
