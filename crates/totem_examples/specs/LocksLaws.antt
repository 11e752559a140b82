-- The lock table's operations are decoded from their encodings, and the holders stay numbers of 8 bytes.
use Rattle.std.proofs.Common.{◌≡◌, ℕ, true, ◌==◌, List, slice_index, Option, Some, None, refl, sym, eqb-true, arith}
use Rattle.std.proofs.lemmas.Bool.{cond_both}
use Rattle.std.proofs.lemmas.Option.{same_Some}
use Rattle.totem_ring.specs.KeyedOperation as keyed
use Rattle.totem_ring.specs.KeyedLaws.{keyed_reads}
use Rattle.totem_ring.specs.Reads.{Reads, by_parts}
use Rattle.totem_ring.specs.Table.{IsTable, IsTable-set}
use Rattle.totem_ring.specs.Types.{KeyedOperation}
use Rattle.totem_examples.specs.Locks.{parts_of, of_code, of_parts, encoding, decoding, is_open, after}
use Rattle.totem_examples.specs.declared.lock_operation.LockOperation.{LockOperation}
use Rattle.totem_examples.specs.declared.lock_operation.LockOperation.TheVariants.{Acquire, Release, Holder}

-- The parts of an operation give that operation.
pub parts_read : (op : LockOperation) → of_parts (parts_of op) ≡ Some op
parts_read (Acquire lock holder) = refl
parts_read (Release lock holder) = refl
parts_read (Holder lock) = refl

-- An operation that was found has these parts.
Has : ℕ → ℕ → Option ℕ → Option LockOperation → Type 0
Has code lock value found = (op : LockOperation) → found ≡ Some op → parts_of op ≡ (record { code = code; key = lock; value = value })

-- An operation has its parts where its code is the number that was tested.
has : (code number lock : ℕ) (value : Option ℕ) (op : LockOperation) → (code == number) ≡ true
    → parts_of op ≡ (record { code = number; key = lock; value = value }) → Has code lock value (Some op)
unfolding Has
has code number lock value op is parts other found = rw (sym (same_Some _ _ found), eqb-true code number is) parts

-- The operation found for a code has that code's parts.
found_has : (code lock : ℕ) (value : Option ℕ) → Has code lock value (of_code code lock value)
unfolding Has
found_has code lock (Some holder) =
    let Found = Has code lock (Some holder) in
    cond_both (code == 1) _ _ Found (λ is. has code 1 lock (Some holder) (Acquire lock holder) is refl)
    (λ _. cond_both (code == 2) _ _ Found (λ is. has code 2 lock (Some holder) (Release lock holder) is refl)
    (λ _ op found. absurd cc))
found_has code lock None =
    cond_both (code == 3) _ _ (Has code lock None) (λ is. has code 3 lock None (Holder lock) is refl) (λ _ op found. absurd cc)

-- An operation found for parts has these parts.
parts_found : (parts : KeyedOperation) (op : LockOperation) → of_parts parts ≡ Some op → parts_of op ≡ parts
unfolding Has
parts_found parts op found = found_has parts.code parts.key parts.value op found

-- The operation's parts fit their bytes.
abbrev pub Fits : LockOperation → Type 0
Fits op = keyed.KeyedFits (parts_of op)

-- Encoding and decoding are inverse.
pub reads : Reads Fits encoding decoding
reads = by_parts keyed.KeyedFits keyed.encoding keyed.decoding keyed_reads parts_of of_parts parts_read parts_found

-- Each operation that fits keeps the holders a table of 256 numbers.
pub keeps_table : (holders : List ℕ) (op : LockOperation) → Fits op → IsTable 256 holders → IsTable 256 (after holders op)
keeps_table holders (Acquire lock holder) fits is =
    cond_both (is_open (slice_index holders lock) holder) _ _ (IsTable 256) (λ _. IsTable-set 256 holders lock holder fits.value is) (λ _. is)
keeps_table holders (Release lock holder) fits is =
    cond_both (slice_index holders lock == holder) _ _ (IsTable 256) (λ _. IsTable-set 256 holders lock 0 (omega arith) is) (λ _. is)
keeps_table holders (Holder lock) fits is = is
