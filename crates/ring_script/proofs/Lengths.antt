-- An operation of a script is short enough for a call.
use Rattle.std.proofs.Common.{◌≡◌, ℕ, ◌+◌, ◌-◌, ◌*◌, ◌^◌, ◌≤◌, Bool, true, false, List, [], ◌∷◌, ◌++◌, length, Option}
use Rattle.std.proofs.Common.{Some, None, Result, Ok, Err, ap, subst, arith, inl, inr}
use Rattle.std.specs.Prelude.{if◌then◌else◌, codes, not, nat_le, ◌&&◌}
use Rattle.std.specs.Char.{is_ascii_graphic, is_ascii_uppercase}
use Rattle.std.specs.List.{list_all, list_any}
use Rattle.std.specs.Result.{result_ok}
use Rattle.std.specs.Int.{w64, to_be_bytes}
use Rattle.std.proofs.lemmas.Bool.{cases_Bool, and_parts, leb-true}
use Rattle.std.proofs.lemmas.List.{length-append}
use Rattle.std.proofs.lemmas.Option.{same_Some}
use Rattle.hex.specs.Hex.{decode_of}
use Rattle.hex.proofs.HexLemmas.{decode_of-ok}
use Rattle.ring_base.proofs.Cases.{and_then_some}
use Rattle.ring_base.specs.declared.fault.Fault.{Fault}
use Rattle.ring_base.specs.declared.fault.Fault.TheVariants.{NotMember, PendingFull, OpTooLong, Conflict, Stale}
use Rattle.ring_base.specs.declared.fault.Fault.TheVariants.{NumberGap, SessionsFull, Stopped, BookFull, Stranger}
use Rattle.ring_base.specs.declared.fault.Fault.TheVariants.{Memory, BadFrame, BadScript, NoAnswer, BadSnapshot}
use Rattle.ring_payload.specs.Calls.{IsNewCall}
use Rattle.ring_script.specs.declared.vocabulary.Argument.{Argument}
use Rattle.ring_script.specs.declared.vocabulary.Argument.TheVariants.{Key, Value, Name}
use Rattle.ring_script.specs.HexWords.{decode_hex_word}
use Rattle.ring_script.specs.Numbers.{is, word_at, number_at}
use Rattle.ring_script.specs.Operations.{is_name, argument_at, argument_after, arguments_after, OperationForm, is_short, are_short, form_of, named_at, raw_at, operation_at}
use Rattle.ring_script.specs.Reading.{IsBadScriptOrMemory}

-- A word that may be a name.
name_short : (word x : List ℕ × List (List ℕ)) → (if is_name word.0 then Some word else None) ≡ Some x → length x.0 ≤ 64
name_short word x e =
    elim (cases_Bool (is_name word.0)) [
      | inl kept ↦
          let parts = and_parts (nat_le 1 (length word.0) && nat_le (length word.0) 64) (list_all is_ascii_graphic word.0) kept in
          let low = and_parts (nat_le 1 (length word.0)) (nat_le (length word.0) 64) parts.0 in
          let same : word ≡ x = (let taken = rw kept at e in cc) in
          omega (arith, leb-true (length word.0) 64 low.1, ap (λ (w : List ℕ × List (List ℕ)). length w.0) same)
      | inr lost ↦ let none = rw lost at e in absurd (cc)
    ]

argument_short : (argument : Argument) (words : List (List ℕ)) (x : List ℕ × List (List ℕ)) → argument_at argument words ≡ Some x → length x.0 ≤ 64
unfolding argument_at
argument_short Key words x e =
    let (key, at, made) = and_then_some _ (number_at 0 255 words) x e in
    let same : key.0 ∷ [] ≡ x.0 = cc in
    omega (arith, ap length same)
argument_short Value words x e =
    let (value, at, made) = and_then_some _ (number_at 0 (2 ^ 64 - 1) words) x e in
    let same : to_be_bytes w64 value.0 ≡ x.0 = cc in
    omega (arith, ap length same)
argument_short Name words x e =
    let (word, at, made) = and_then_some _ (word_at words) x e in
    name_short word x made

arguments_short : (bytes : List ℕ) (arguments : List Argument) (words : List (List ℕ)) (x : List ℕ × List (List ℕ))
    → arguments_after bytes arguments words ≡ Some x → length x.0 ≤ length bytes + 64 * length arguments
unfolding arguments_after
arguments_short bytes [] words x e = let same : bytes ≡ x.0 = cc in omega (arith, ap length same)
arguments_short bytes (argument ∷ others) words x e =
    let (next, at, made) = and_then_some _ (argument_after bytes argument words) x e in
    let (first, read, put) = and_then_some _ (argument_at argument words) next at in
    let same : bytes ++ first.0 ≡ next.0 = cc in
    omega (arith, ap length same, length-append bytes first.0, argument_short argument words first read, arguments_short next.0 others next.1 x made)

-- The form found among these makes at most 1,024 bytes.
either_short : (b : Bool) (first form : OperationForm) (others : Option OperationForm) → is_short first ≡ true → (others ≡ Some form → is_short form ≡ true)
    → (if b then Some first else others) ≡ Some form → is_short form ≡ true
either_short true first form others short more e = subst (λ (f : OperationForm). is_short f ≡ true) (same_Some first form e) short
either_short false first form others short more e = more e

found_short : (forms : List OperationForm) (word : List ℕ) (form : OperationForm) → are_short forms ≡ true → form_of forms word ≡ Some form → is_short form ≡ true
unfolding form_of
found_short [] word form short e = absurd cc
found_short (first ∷ forms) word form short e =
    let parts = and_parts (is_short first) (are_short forms) short in
    either_short (is first.word word) first form (form_of forms word) parts.0 (found_short forms word form parts.1) e

named_short : (forms : List OperationForm) (name : List ℕ) (words : List (List ℕ)) (x : List ℕ × List (List ℕ)) → are_short forms ≡ true
    → named_at forms name words ≡ Some x → length x.0 ≤ 1024
unfolding named_at
named_short forms name words x short e =
    let (form, named, made) = and_then_some _ (form_of forms name) x e in
    let low = leb-true (length form.first + 64 * length form.arguments) 1024 (found_short forms name form short named) in
    omega (arith, low, arguments_short form.first form.arguments words x made)

ok_from_some : {X E : Type 0} (r : Result X E) (x : X) → result_ok r ≡ Some x → r ≡ Ok x
ok_from_some (Ok y) x e = ap Ok (same_Some y x e)
ok_from_some (Err y) x e = absurd cc

-- The bytes that a word encodes.
encoded_short : (most : ℕ) (word bytes : List ℕ) → decode_hex_word most word ≡ Some bytes → length bytes ≤ most
unfolding decode_hex_word
encoded_short most word bytes e =
    let is_short = nat_le 1 (length word) && nat_le (length word) (2 * most) in
    let is_lower = not (list_any is_ascii_uppercase word) in
    elim (cases_Bool (is_short && is_lower)) [
      | inl kept ↦
          let low = and_parts (nat_le 1 (length word)) (nat_le (length word) (2 * most)) (and_parts is_short is_lower kept).0 in
          let read : result_ok (decode_of word) ≡ Some bytes = (let taken = rw kept at e in taken) in
          let twice = (decode_of-ok word bytes (ok_from_some (decode_of word) bytes read)).2 in
          omega (arith, leb-true (length word) (2 * most) low.1, twice)
      | inr lost ↦ let none = rw lost at e in absurd (cc)
    ]

raw_short : (words : List (List ℕ)) (x : List ℕ × List (List ℕ)) → raw_at words ≡ Some x → length x.0 ≤ 1024
unfolding raw_at
raw_short words x e =
    let (word, at, next) = and_then_some _ (word_at words) x e in
    let (bytes, read, made) = and_then_some _ (decode_hex_word 1024 word.0) x next in
    subst (λ (y : List ℕ × List (List ℕ)). length y.0 ≤ 1024) (same_Some (bytes, word.1) x made) (encoded_short 1024 word.0 bytes read)

pub operation_short : (forms : List OperationForm) (words : List (List ℕ)) (x : List ℕ × List (List ℕ)) → are_short forms ≡ true
    → operation_at forms words ≡ Some x → length x.0 ≤ 1024
unfolding operation_at
operation_short forms words x short e =
    let (word, at, next) = and_then_some _ (word_at words) x e in
    elim (cases_Bool (is (codes "raw") word.0)) [
      | inl raw ↦ raw_short word.1 x (let taken = rw raw at next in taken)
      | inr named ↦ named_short forms word.0 word.1 x short (let taken = rw named at next in taken)
    ]

-- A call of such an operation is refused only because an allocation failed.
pub call_refused : {Y : Type 0} (A : Type 0) (e : Fault) (client number : ℕ) (op : List ℕ) (read : Option Y)
    → length op ≤ 1024 → 1 ≤ number → IsNewCall {A = A} client number op (Err e) → IsBadScriptOrMemory e read
call_refused A NotMember client number op read short some h = h
call_refused A PendingFull client number op read short some h = h
call_refused A OpTooLong client number op read short some h = absurd (omega (arith, h))
call_refused A Conflict client number op read short some h = h
call_refused A Stale client number op read short some h = h
call_refused A NumberGap client number op read short some h = absurd (omega (arith, h.1))
call_refused A SessionsFull client number op read short some h = h
call_refused A Stopped client number op read short some h = h
call_refused A BookFull client number op read short some h = h
call_refused A Stranger client number op read short some h = h
call_refused A Memory client number op read short some h = tt
call_refused A BadFrame client number op read short some h = h
call_refused A BadScript client number op read short some h = absurd h
call_refused A NoAnswer client number op read short some h = h
call_refused A BadSnapshot client number op read short some h = h
