-- A set of names as a table: how an operation is decoded, the reply to it, and the names in the set after it. A set is the
-- ascending list of its names.
-- Rules: Objects 1 to 3 and 5
-- Formats: Operations and replies, Snapshots
use Rattle.std.specs.Prelude.{◌≡◌, ℕ, zero, suc, ◌<◌, ◌≤◌, Bool, true, false, ◌==◌, nat_le, ◌&&◌, if◌then◌else◌, not}
use Rattle.std.specs.Prelude.{List, [], ◌∷◌, ◌++◌, length, take, drop, filter, insert, remove, All, Option, Some, None}
use Rattle.std.specs.Prelude.{is_some}
use Rattle.std.specs.List.{list_any, flat_map}
use Rattle.std.specs.Option.{option_map, option_and_then}
use Rattle.std.specs.List.Sorted.{IsStrictlySortedBy}
use Rattle.std.specs.Ordering.{nat_cmp, is_lt, is_eq}
use Rattle.std.specs.declared.cmp.Ordering.{Ordering}
use Rattle.std.specs.Cmp.Lexicographic.{slice_cmp}
use Rattle.byteorder.specs.Endian.{big_bytes, big_number}
use Rattle.ring_object.specs.Bytes.{AreBytes}
use Rattle.ring_object.specs.Operations.{unreadable_reply}
use Rattle.ring_things.specs.declared.names.NamesOperation.{NamesOperation}
use Rattle.ring_things.specs.declared.names.NamesOperation.TheVariants.{Insert, Remove, Has}

-- The maximum number of names in a set.
abbrev pub max_names : ℕ
max_names = 1024

-- A name: 1 to 64 bytes of any value.
pub record IsName (name : List ℕ) : Type 0 where
  pub some : 1 ≤ length name
  pub short : length name ≤ 64
  pub bytes : AreBytes name

-- Whether a text has the length of a name.
abbrev pub is_name : List ℕ → Bool
is_name name = nat_le 1 (length name) && nat_le (length name) 64

-- The order of names: lexicographic by bytes, so that a proper prefix is below the whole.
abbrev pub by_bytes : List ℕ → List ℕ → Ordering
by_bytes = slice_cmp nat_cmp

-- Each name is below those after it, so no name occurs twice.
abbrev pub AreAscending : List (List ℕ) → Type 0
AreAscending names = IsStrictlySortedBy by_bytes names

-- A set's content: at most 1,024 names, ascending.
pub record IsSet (names : List (List ℕ)) : Type 0 where
  pub few : length names ≤ max_names
  pub each : All IsName names
  pub ascending : AreAscending names

-- Whether the two names are equal.
abbrev pub same : List ℕ → List ℕ → Bool
same name other = is_eq (by_bytes other name)

-- Whether the name is in the set.
abbrev pub has : List ℕ → List (List ℕ) → Bool
has name names = list_any (same name) names

-- The number of names below the name, which is its index in the set.
unfoldable pub below : List ℕ → List (List ℕ) → ℕ
below name [] = 0
below name (other ∷ names) = if is_lt (by_bytes other name) then suc (below name names) else 0

-- The set with the name inserted at its index; for sets without the name.
abbrev pub with_name : List ℕ → List (List ℕ) → List (List ℕ)
with_name name names = insert names (below name names) name

-- The set without the name; the same set if the name isn't in it.
abbrev pub without_name : List ℕ → List (List ℕ) → List (List ℕ)
without_name name names = filter (λ other. not (same name other)) names

-- The name is in the set, at this index.
pub record IsFound (name : List ℕ) (names : List (List ℕ)) (place : ℕ) : Type 0 where
  pub there : has name names ≡ true
  pub within : place < length names
  pub others : remove names place ≡ without_name name names

-- The name isn't in the set, and belongs at this index.
pub record IsMissing (name : List ℕ) (names : List (List ℕ)) (place : ℕ) : Type 0 where
  pub nowhere : has name names ≡ false
  pub within : place ≤ length names
  pub with_it : insert names place name ≡ with_name name names
  pub others : names ≡ without_name name names

-- The operation with a code and a name, if the code is one.
abbrev pub name_operation : ℕ → List ℕ → Option NamesOperation
name_operation code name =
    if code == 1 then Some (Insert name)
    else if code == 2 then Some (Remove name)
    else if code == 3 then Some (Has name)
    else None

-- The operation that the bytes encode, if any: a code and a name.
abbrev pub decoding : List ℕ → Option NamesOperation
decoding (code ∷ name) = if is_name name then name_operation code name else None
decoding [] = None

-- The bytes of an operation.
abbrev pub encoding : NamesOperation → List ℕ
encoding (Insert name) = 1 ∷ name
encoding (Remove name) = 2 ∷ name
encoding (Has name) = 3 ∷ name

-- Whether the bytes are an operation.
abbrev pub is_readable : List ℕ → Bool
is_readable op = is_some (decoding op)

-- The reply to a decoded operation. Insert: `01` if the name is present, otherwise `02` with 1,024 names, otherwise
-- `00`. Remove and has: `00` if it is present, `01` if it is absent. Bytes that are no operation: `FF`.
abbrev pub reply_to : List (List ℕ) → Option NamesOperation → List ℕ
reply_to names (Some (Insert name)) = if has name names then 1 ∷ [] else if length names == max_names then 2 ∷ [] else 0 ∷ []
reply_to names (Some (Remove name)) = if has name names then 0 ∷ [] else 1 ∷ []
reply_to names (Some (Has name)) = if has name names then 0 ∷ [] else 1 ∷ []
reply_to names None = unreadable_reply

-- The set after a decoded operation. An insert adds its name if there is room, a remove removes it; otherwise nothing
-- changes.
abbrev pub after : List (List ℕ) → Option NamesOperation → List (List ℕ)
after names (Some (Insert name)) = if has name names then names else if length names == max_names then names else with_name name names
after names (Some (Remove name)) = without_name name names
after names (Some (Has name)) = names
after names None = names

-- The reply to the bytes of an operation.
abbrev pub reply : List (List ℕ) → List ℕ → List ℕ
reply names op = reply_to names (decoding op)

-- The set after the bytes of an operation.
abbrev pub next : List (List ℕ) → List ℕ → List (List ℕ)
next names op = after names (decoding op)

-- The bytes of a list of names: for each name its length in one byte, then its bytes.
abbrev pub list_encoding : List (List ℕ) → List ℕ
list_encoding names = flat_map (λ name. length name ∷ name) names

-- The snapshot of a set: the number of names in 2 bytes, then the names, ascending.
abbrev pub snapshot_of : List (List ℕ) → List ℕ
snapshot_of names = big_bytes 2 (length names) ++ list_encoding names

-- The name at the start of the bytes, if there is one and it is above the last name.
abbrev pub next_name : List ℕ → List ℕ → Option (List ℕ)
next_name last [] = None
next_name last (len ∷ bytes) =
    if (nat_le 1 len && nat_le len 64) && (nat_le len (length bytes) && is_lt (by_bytes last (take len bytes))) then Some (take len bytes) else None

-- The names that the bytes encode, if they are exactly `count` ascending names above the last name.
unfoldable pub names_of : ℕ → List ℕ → List ℕ → Option (List (List ℕ))
names_of zero last bytes = if length bytes == 0 then Some [] else None
names_of (suc count) last bytes =
    option_and_then (λ name. option_map (λ names. name ∷ names) (names_of count name (drop (suc (length name)) bytes))) (next_name last bytes)

-- The set whose snapshot is the bytes, if they are one. The empty text is below every name.
abbrev pub set_of : List ℕ → Option (List (List ℕ))
set_of bytes =
    if nat_le 2 (length bytes) && nat_le (big_number 2 bytes) max_names then names_of (big_number 2 bytes) [] (drop 2 bytes) else None
