-- Reading a value from the front of bytes, and how such readings are combined. A reading gives the value and the rest
-- of the bytes, or nothing.
-- Formats: Numbers and parts; Frames
use Rattle.std.specs.Prelude.{◌≡◌, ℕ, zero, suc, ◌+◌, ◌≤◌, ◌^◌, ◌<◌, Bool, List, [], ◌∷◌, ◌++◌, length, take, drop}
use Rattle.std.specs.Prelude.{slice_index, Option, Some, None, Result, Ok, Err, nat_lt, ◌==◌, if◌then◌else◌}
use Rattle.bytes.specs.Filled.{Filled}
use Rattle.byteorder.specs.Endian.{big_number}
use Rattle.ring_base.specs.declared.fault.Fault.{Fault}
use Rattle.ring_base.specs.declared.fault.Fault.TheVariants.{Memory, BadFrame}

-- ---- exact reading

-- each element is a byte: below 256
abbrev pub IsBytes : List ℕ → Type 0
IsBytes bytes = (i : ℕ) → slice_index bytes i < 256

-- the bytes are the text followed by the rest, which are bytes too
pub record IsSplitAfter (bytes text rest : List ℕ) : Type 0 where
  pub parts : bytes ≡ text ++ rest
  pub rest_fits : IsBytes rest

-- reading is exact: it gives a value that fits if the bytes begin with its encoding, and nothing otherwise
pub record IsFormat {A : Type 0} (encoding : A → List ℕ) (Fits : A → Type 0) (at : List ℕ → Option (A × List ℕ)) : Type 0 where
  pub takes : (bytes : List ℕ) (x : A × List ℕ) → IsBytes bytes → at bytes ≡ Some x → IsSplitAfter bytes (encoding x.0) x.1 × Fits x.0
  pub again : (v : A) (rest : List ℕ) → Fits v → at (encoding v ++ rest) ≡ Some (v, rest)

-- ---- the contracts of calls that read and write

-- the refusal is allowed: `Memory` always, `BadFrame` only if nothing can be read
abbrev pub IsReadRefusal : {Y : Type 0} → Fault → Option Y → Type 0
IsReadRefusal Memory read = Unit {0}
IsReadRefusal BadFrame read = read ≡ None
IsReadRefusal _ read = ⊥

-- the call returned what the reading gives, seen by `view`, and left its rest, or it refused as `IsReadRefusal` allows
abbrev pub IsReadResultBy : {X Y : Type 0} → (X → Y) → Result X Fault → List ℕ → Option (Y × List ℕ) → Type 0
IsReadResultBy view (Ok x) rest read = read ≡ Some (view x, rest)
IsReadResultBy view (Err e) rest read = IsReadRefusal e read

-- the call returned what the reading gives, and left its rest, or it refused as `IsReadRefusal` allows
abbrev pub IsReadResult : {X : Type 0} → Result X Fault → List ℕ → Option (X × List ℕ) → Type 0
IsReadResult (Ok x) rest read = read ≡ Some (x, rest)
IsReadResult (Err e) rest read = IsReadRefusal e read

-- the call appended the text, for which there was room
pub record Appends (old new : Filled) (text : List ℕ) : Type 0 where
  pub items : new.items ≡ old.items ++ text
  pub room : old.spare ≤ new.spare + length text

-- one text, then another
infixr 20 ◌⊕◌
abbrev pub ◌⊕◌ : List ℕ → List ℕ → List ℕ
xs ⊕ ys = xs ++ ys

-- ---- readings, and how they are combined

-- one step, then another that may depend on it; nothing if either gives nothing
infixl 10 ◌>>=◌
abbrev pub ◌>>=◌ : {A B : Type 0} → Option A → (A → Option B) → Option B
None >>= f = None
(Some x) >>= f = f x

-- the number fits in n bytes
abbrev pub IsWord : ℕ → ℕ → Type 0
IsWord n v = v < 256 ^ n

-- reads a number of n bytes, big-endian
abbrev pub number_at : ℕ → List ℕ → Option (ℕ × List ℕ)
number_at n bytes = if nat_lt (length bytes) n then None else Some (big_number n bytes, drop n bytes)

-- reads one byte
abbrev pub byte_at : List ℕ → Option (ℕ × List ℕ)
byte_at [] = None
byte_at (b ∷ bytes) = Some (b, bytes)

-- reads n bytes as they are
abbrev pub raw_bytes_at : ℕ → List ℕ → Option (List ℕ × List ℕ)
raw_bytes_at n bytes = if nat_lt (length bytes) n then None else Some (take n bytes, drop n bytes)

-- reads nothing
abbrev pub failing_at : {A : Type 0} → List ℕ → Option (A × List ℕ)
failing_at bytes = None

-- reads a value of no bytes
abbrev pub empty_at : {A : Type 0} → A → List ℕ → Option (A × List ℕ)
empty_at v bytes = Some (v, bytes)

-- reads n values
unfoldable pub repeated_at : {A : Type 0} → ℕ → (List ℕ → Option (A × List ℕ)) → List ℕ → Option (List A × List ℕ)
repeated_at zero at bytes = Some ([], bytes)
repeated_at (suc n) at bytes = do
  first ← at bytes
  others ← repeated_at n at first.1
  Some (first.0 ∷ others.0, others.1)

-- reads a value, then one that may depend on it
abbrev pub sequence_at : {A B : Type 0} → (List ℕ → Option (A × List ℕ)) → (A → List ℕ → Option (B × List ℕ)) → List ℕ → Option ((A × B) × List ℕ)
sequence_at first second bytes = do
  x ← first bytes
  y ← second x.0 x.1
  Some ((x.0, y.0), y.1)

-- reads a value, which must pass a test
abbrev pub tested_at : {A : Type 0} → (A → Bool) → (List ℕ → Option (A × List ℕ)) → List ℕ → Option (A × List ℕ)
tested_at test at bytes = do
  x ← at bytes
  if test x.0 then Some x else None

-- reads a value, and makes another from it
abbrev pub mapped_at : {A B : Type 0} → (A → B) → (List ℕ → Option (A × List ℕ)) → List ℕ → Option (B × List ℕ)
mapped_at make at bytes = do
  x ← at bytes
  Some (make x.0, x.1)

-- reads a byte that says how to read the rest
abbrev pub tagged_at : {A : Type 0} → (ℕ → List ℕ → Option (A × List ℕ)) → List ℕ → Option (A × List ℕ)
tagged_at at bytes = do
  tag ← byte_at bytes
  at tag.0 tag.1

-- reads a length, then a value of exactly that many bytes
abbrev pub sized_with : {A : Type 0} → (List ℕ → Option (ℕ × List ℕ)) → (List ℕ → Option (A × List ℕ)) → List ℕ → Option (A × List ℕ)
sized_with number at bytes = do
  n ← number bytes
  text ← raw_bytes_at n.0 n.1
  x ← at text.0
  if length x.1 == 0 then Some (x.0, text.1) else None

-- reads a length of 4 bytes, then a value of exactly that many bytes
abbrev pub sized_at : {A : Type 0} → (List ℕ → Option (A × List ℕ)) → List ℕ → Option (A × List ℕ)
sized_at at bytes = sized_with (number_at 4) at bytes
