-- Registers satisfy the laws of objects.
-- Rules: Objects 1 and 2
use Rattle.std.proofs.Common.{◌≡◌, ℕ, ◌^◌, ◌<◌, false, ◌==◌, ◌&&◌, List, [], ◌∷◌, length, drop, slice_index, Option, Some, None, refl, arith}
use Rattle.std.proofs.lemmas.Bool.{cond_both}
use Rattle.ring_base.proofs.Cases.{none_of}
use Rattle.ring_object.specs.Bytes.{AreBytes}
use Rattle.ring_object.specs.Operations.{IsReply, unreadable_reply}
use Rattle.ring_things.specs.Numbers.{big_number-lt}
use Rattle.ring_things.specs.ReplyBytes.{code_fits, code_and_value_fits, AreBytes-rest, AreBytes-drop}
use Rattle.ring_things.specs.Table.{IsTable, IsTable-set, keys}
use Rattle.ring_things.specs.Registers.{decoding, is_readable, reply, next, reply_to, after}
use Rattle.ring_things.specs.declared.registers.RegisterOperation.{RegisterOperation}
use Rattle.ring_things.specs.declared.registers.RegisterOperation.TheVariants.{Get, Put, CompareAndSet}

-- A stored value has 8 bytes.
abbrev Fits : Option RegisterOperation → Type 0
Fits (Some (Put key value)) = value < 256 ^ 8
Fits (Some (CompareAndSet key expected new)) = new < 256 ^ 8
Fits _ = Unit {0}

decoding_fits : (op : List ℕ) → AreBytes op → Fits (decoding op)
decoding_fits [] are = tt
decoding_fits (code ∷ []) are = tt
decoding_fits (code ∷ key ∷ rest) are =
    let bytes : AreBytes rest = AreBytes-rest key rest (AreBytes-rest code (key ∷ rest) are) in
    cond_both (code == 1 && length rest == 0) _ _ Fits (λ _. tt)
    (λ _. cond_both (code == 2 && length rest == 8) _ _ Fits (λ _. big_number-lt 8 rest bytes)
    (λ _. cond_both (code == 3 && length rest == 16) _ _ Fits (λ _. big_number-lt 8 (drop 8 rest) (AreBytes-drop 8 rest bytes)) (λ _. tt)))

after_kept : (values : List ℕ) (op : Option RegisterOperation) → Fits op → IsTable keys values → IsTable keys (after values op)
after_kept values (Some (Get key)) fits is = is
after_kept values (Some (Put key value)) fits is = IsTable-set keys values key value fits is
after_kept values (Some (CompareAndSet key expected new)) fits is =
    cond_both (slice_index values key == expected) _ _ (IsTable keys) (λ _. IsTable-set keys values key new fits is) (λ _. is)
after_kept values None fits is = is

-- After every operation the content is a table.
pub next_kept : (values op : List ℕ) → AreBytes op → IsTable keys values → IsTable keys (next values op)
next_kept values op are is = after_kept values (decoding op) (decoding_fits op are) is

reply_fits : (values : List ℕ) (op : Option RegisterOperation) → IsReply (reply_to values op)
reply_fits values (Some (Get key)) = code_and_value_fits 0 (slice_index values key) (omega arith)
reply_fits values (Some (Put key value)) = code_fits 0 (omega arith)
reply_fits values (Some (CompareAndSet key expected new)) =
    cond_both (slice_index values key == expected) _ _ IsReply (λ _. code_fits 0 (omega arith))
    (λ _. code_and_value_fits 1 (slice_index values key) (omega arith))
reply_fits values None = code_fits 255 (omega arith)

-- Every reply has at most 64 bytes.
pub replies_fit : (values op : List ℕ) → AreBytes op → IsTable keys values → IsReply (reply values op)
replies_fit values op are is = reply_fits values (decoding op)

-- Bytes that are no operation get the reply `FF` and change nothing.
pub ignored : (values op : List ℕ) → is_readable op ≡ false → (reply values op ≡ unreadable_reply) × (next values op ≡ values)
ignored values op none = rw (none_of (decoding op) none) (refl, refl)
