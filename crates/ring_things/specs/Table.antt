-- A table: a number for each of n keys, and that exactly its snapshot restores it.
-- Rules: Objects 3
-- Formats: Snapshots
use Rattle.std.proofs.Common.{◌≡◌, ℕ, ◌*◌, ◌^◌, ◌<◌, ◌==◌, slice_set, length-set, if◌then◌else◌, List, length}
use Rattle.std.proofs.Common.{replicate, Option, Some, None, sym, ap, ◌∙◌, subst, arith, eqb-true, eq-eqb}
use Rattle.std.proofs.lemmas.Bool.{cond-true}
use Rattle.std.proofs.lemmas.List.{length-replicate}
use Rattle.std.proofs.lemmas.Option.{same_Some}
use Rattle.std.proofs.lemmas.List.Elements.{All-set, All-replicate}
use Rattle.ring_object.specs.Bytes.{AreBytes}
use Rattle.ring_object.specs.Snapshots.{HasExactSnapshots}
use Rattle.ring_base.proofs.Cases.{guarded_some}
use Rattle.ring_things.specs.Numbers.{list_encoding, numbers_from_bytes, AreNumbers, exact_8, length-list_encoding, length-numbers_from_bytes}
use Rattle.ring_things.specs.Numbers.{AreNumbers-numbers_from_bytes, numbers_from_bytes-list_encoding, list_encoding-numbers_from_bytes}

-- The number of keys of the tables in the code: a key is one byte.
abbrev pub keys : ℕ
keys = 256

-- The content of a table: a number of 8 bytes for each of n keys.
pub record IsTable (n : ℕ) (table : List ℕ) : Type 0 where
  pub all_keys : length table ≡ n
  pub numbers : AreNumbers 8 table

-- The table at the start: all zeros.
abbrev pub zeros : ℕ → List ℕ
zeros n = replicate n 0

-- The snapshot of a table.
abbrev pub snapshot_of : List ℕ → List ℕ
snapshot_of numbers = list_encoding 8 numbers

-- The table whose snapshot is the bytes, if they are one.
abbrev pub table_of : ℕ → List ℕ → Option (List ℕ)
table_of n bytes = if length bytes == 8 * n then Some (numbers_from_bytes 8 n bytes) else None

-- The table at the start is a table.
pub zeros_IsTable : (n : ℕ) → IsTable n (zeros n)
zeros_IsTable n = record { all_keys = length-replicate {A = ℕ} n 0; numbers = All-replicate (λ number. number < 256 ^ 8) n 0 (omega arith) }

-- A table is still a table after a number is stored.
pub IsTable-set : (n : ℕ) (numbers : List ℕ) (key number : ℕ) → number < 256 ^ 8 → IsTable n numbers → IsTable n (slice_set numbers key number)
IsTable-set n numbers key number fits is = record {
  all_keys = length-set numbers key number ∙ is.all_keys;
  numbers = All-set (λ number. number < 256 ^ 8) numbers key number fits is.numbers;
}

-- Numbers decoded from bytes are a table.
pub IsTable-numbers_from_bytes : (n : ℕ) (bytes : List ℕ) → AreBytes bytes → IsTable n (numbers_from_bytes 8 n bytes)
IsTable-numbers_from_bytes n bytes are = record { all_keys = length-numbers_from_bytes 8 n bytes; numbers = AreNumbers-numbers_from_bytes 8 n bytes are }

restored : (n : ℕ) (numbers : List ℕ) → IsTable n numbers → table_of n (list_encoding 8 numbers) ≡ Some numbers
restored n numbers is =
    let len : length (list_encoding 8 numbers) ≡ 8 * n = length-list_encoding 8 numbers ∙ ap (λ m. 8 * m) is.all_keys in
    let whole : numbers_from_bytes 8 n (list_encoding 8 numbers) ≡ numbers = ap (λ m. numbers_from_bytes 8 m (list_encoding 8 numbers))
    (sym is.all_keys) ∙ numbers_from_bytes-list_encoding 8 numbers is.numbers in
    cond-true (length (list_encoding 8 numbers) == 8 * n) _ _ (eq-eqb _ _ len) ∙ ap Some whole

only : (n : ℕ) (bytes numbers : List ℕ) → AreBytes bytes → table_of n bytes ≡ Some numbers → IsTable n numbers × (list_encoding 8 numbers ≡ bytes)
only n bytes numbers are is =
    let g = guarded_some (length bytes == 8 * n) (Some (numbers_from_bytes 8 n bytes)) numbers is in
    let P : List ℕ → Type 0 = λ v. IsTable n v × (list_encoding 8 v ≡ bytes) in
    subst P (same_Some _ _ g.1) (IsTable-numbers_from_bytes n bytes are, list_encoding-numbers_from_bytes 8 exact_8 n bytes (eqb-true _ _ g.0) are)

-- Exactly the snapshots of tables are restored, each to its table.
pub tables_restore : (n : ℕ) → HasExactSnapshots (IsTable n) snapshot_of (table_of n)
tables_restore n = record { same = λ numbers is short. restored n numbers is; only = only n }
