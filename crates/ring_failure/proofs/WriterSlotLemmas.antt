-- What a slot's borrowed writer holds, also once the buffer over it is empty.
use Rattle.std.proofs.Common.{◌≡◌, ℕ, List, [], ◌∷◌, ◌++◌, Option, Some, None, Result, Ok, Err, IsOk, OnOk, refl, sym, ◌∙◌, ap, subst, take}
use Rattle.std.proofs.lemmas.List.{append-nil}
use Rattle.std.specs.Borrow.{MutBor}
use Rattle.std.specs.Io.KnownBytes.{Appends, Keeps, WriteAppends, append_known}
use Rattle.std.specs.Io.Buffered.{writer_inner, writer_buffer, writer_contents}
use Rattle.std.specs.declared.io.buffered.BufWriter.{BufWriter}
use Rattle.ring_failure.specs.declared.writer_slot.WriterSlot.{WriterSlot}
use Rattle.ring_failure.specs.WriterSlots.{borrowed_bytes, slot_bytes}

-- ---- a borrow's name before its known bytes.

-- The bytes are kept.
pub named_kept : (name : ℕ) (old new : Option (List ℕ)) → Keeps old new → Keeps (borrowed_bytes name old) (borrowed_bytes name new)
named_kept name None new kept = tt
named_kept name (Some xs) None kept = absurd kept
named_kept name (Some xs) (Some ys) kept = ap (λ (bytes : List ℕ). name ∷ bytes) kept

-- The bytes grow by a text.
named_appended : (name : ℕ) (old new : Option (List ℕ)) (text : List ℕ) → Appends old new text
    → Appends (borrowed_bytes name old) (borrowed_bytes name new) text
named_appended name None new text appended = tt
named_appended name (Some xs) None text appended = absurd appended
named_appended name (Some xs) (Some ys) text appended = ap (λ (bytes : List ℕ). name ∷ bytes) appended

-- A write appends the bytes that it took.
pub named_written : {E : Type 0} (name : ℕ) (old new : Option (List ℕ)) (written : Result ℕ E) (text : List ℕ) → WriteAppends old new written text
    → WriteAppends (borrowed_bytes name old) (borrowed_bytes name new) written text
named_written name old new (Ok n) text appended = named_appended name old new (take n text) appended
named_written name old new (Err e) text kept = named_kept name old new kept

-- All bytes of a text are written.
pub named_all_written : {T E : Type 0} (name : ℕ) (old new : Option (List ℕ)) (written : Result T E) (text : List ℕ)
    → OnOk written (Appends old new text) → OnOk written (Appends (borrowed_bytes name old) (borrowed_bytes name new) text)
named_all_written name old new (Ok x) text appended = named_appended name old new text appended
named_all_written name old new (Err e) text appended = tt

-- ---- a writer that an emptied buffer gives back.

-- The slot has the same borrow of a writer, and its known bytes have grown by the text.
abbrev pub IsGivenBack : {W : Type 0} → (W → Option (List ℕ)) → MutBor W → List ℕ → Option (MutBor W) → Type 0
IsGivenBack contents out text None = ⊥
IsGivenBack contents out text (Some writer) =
    (writer.ghost_name ≡ out.ghost_name) × Appends (contents out.now) (contents writer.now) text

-- The name in front is the same, and the bytes after it have grown by the text.
came_back : (g h : ℕ) (xs text : List ℕ) (mid new : Option (List ℕ)) → Appends (append_known (borrowed_bytes g (Some xs)) [])
    mid text → Keeps mid (append_known (borrowed_bytes h new) [])
    → (h ≡ g) × Appends (Some xs) new text
came_back g h xs text None new a k = absurd a
came_back g h xs text (Some ys) None a k = absurd k
came_back g h xs text (Some ys) (Some zs) a k =
    let left : h ∷ zs ≡ ys = sym (append-nil (h ∷ zs)) ∙ k in
    let right : ys ≡ g ∷ (xs ++ text) = a ∙ ap (λ (t : List ℕ). t ++ text) (append-nil (g ∷ xs)) in
    let all : h ∷ zs ≡ g ∷ (xs ++ text) = left ∙ right in
    (cc, cc)

-- No known bytes are kept where the slot is empty.
came_empty : (g : ℕ) (xs text : List ℕ) (mid : Option (List ℕ)) → Appends (append_known (borrowed_bytes g (Some xs)) []) mid text → Keeps mid None → ⊥
came_empty g xs text None a k = absurd a
came_empty g xs text (Some ys) a k = absurd k

in_slot : {W : Type 0} (contents : W → Option (List ℕ)) (out : MutBor W) (back : Option (MutBor W)) (mid : Option (List ℕ)) (text xs : List ℕ)
    → contents out.now ≡ Some xs → Appends (append_known (borrowed_bytes out.ghost_name (Some xs)) []) mid text
    → Keeps mid (append_known (slot_bytes contents back) []) → IsGivenBack contents out text back
in_slot contents out None mid text xs known a k = came_empty out.ghost_name xs text mid a k
in_slot contents out (Some writer) mid text xs known a k =
    let both = came_back out.ghost_name writer.ghost_name xs text mid (contents writer.now) a k in
    (both.0, subst (λ (o : Option (List ℕ)). Appends o (contents writer.now) text) (sym known) both.1)

-- If an emptied buffer over a slot with a borrowed writer gives the slot back, that has the same borrow, and its known
-- bytes have grown by the written bytes.
pub given_back : {A W : Type 0} (contents : W → Option (List ℕ)) (out : MutBor W) (slot : WriterSlot W) (back : Option (MutBor W)) (first mid last : BufWriter (WriterSlot W) A) (text : List ℕ)
    → let C : BufWriter (WriterSlot W) A → Option (List ℕ) = writer_contents (λ (s : WriterSlot W). slot_bytes contents s.writer) in
    (xs : List ℕ) → contents out.now ≡ Some xs → writer_inner first ≡ record { writer = Some out } → writer_buffer first ≡ []
    → Appends (C first) (C mid) text → Keeps (C mid) (C last) → writer_buffer last ≡ [] → slot ≡ writer_inner last → slot.writer ≡ back
    → IsGivenBack contents out text back
given_back {A} {W} contents out slot back first mid last text xs known inner empty written kept emptied parts has =
    let N : WriterSlot W → Option (List ℕ) = λ s. slot_bytes contents s.writer in
    let a : Appends (append_known (borrowed_bytes out.ghost_name (contents out.now)) []) (writer_contents N mid) text =
    subst (λ (b : List ℕ). Appends (append_known (borrowed_bytes out.ghost_name (contents out.now)) b) (writer_contents N mid) text) empty
    (subst (λ (s : WriterSlot W). Appends (append_known (N s) (writer_buffer first)) (writer_contents N mid) text) inner written) in
    let k : Keeps (writer_contents N mid) (append_known (N slot) []) =
    subst (λ (b : List ℕ). Keeps (writer_contents N mid) (append_known (N slot) b)) emptied
    (subst (λ (s : WriterSlot W). Keeps (writer_contents N mid) (append_known (N s) (writer_buffer last))) (sym parts) kept) in
    let P : Option (List ℕ) → Type 0 = λ o. Appends (append_known (borrowed_bytes out.ghost_name o) []) (writer_contents N mid) text in
    subst (IsGivenBack contents out text) has (in_slot contents out slot.writer (writer_contents N mid) text xs known (subst P known a) k)

-- Of unknown bytes there is nothing to prove.
pub where_known : (old new : Option (List ℕ)) (text : List ℕ) → ((xs : List ℕ) → old ≡ Some xs → Appends old new text) → Appends old new text
where_known None new text h = tt
where_known (Some xs) new text h = h xs refl

-- The fact that holds at `Ok`, if the result is `Ok`.
pub at_ok : {T E P : Type 0} (r : Result T E) → OnOk r P → IsOk r → P
at_ok (Ok x) h k = h
at_ok (Err e) h k = absurd (cc k)
