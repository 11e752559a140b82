-- Four objects with the numbers 0 to 3, as one object.
-- Rules: Objects 1 to 3 and 5
-- Formats: Operations and replies, Snapshots
use Rattle.std.specs.Prelude.{ℕ, Bool, false, ◌==◌, nat_le, ◌&&◌, if◌then◌else◌, List, [], ◌∷◌, ◌++◌, length, take, drop, Option, Some, None}
use Rattle.std.specs.Option.{option_and_then}
use Rattle.byteorder.specs.Endian.{big_number}
use Rattle.ring_object.specs.Operations.{unreadable_reply}
use Rattle.ring_object.specs.Sized.{sized}
use Rattle.ring_things.specs.declared.shelf.ShelfPosition.{ShelfPosition}
use Rattle.ring_things.specs.declared.shelf.ShelfPosition.TheVariants.{First, Second, Third, Fourth}

-- The number of the object at a position.
abbrev pub number_of : ShelfPosition → ℕ
number_of First = 0
number_of Second = 1
number_of Third = 2
number_of Fourth = 3

-- Whether the bytes are an operation: the first byte is an object's number, and the rest that object's operation.
abbrev pub shelf_readable : (List ℕ → Bool) → (List ℕ → Bool) → (List ℕ → Bool) → (List ℕ → Bool) → List ℕ → Bool
shelf_readable p q r s [] = false
shelf_readable p q r s (which ∷ op) =
    if which == 0 then p op else if which == 1 then q op else if which == 2 then r op else if which == 3 then s op else false

-- The reply of the object with this number to the rest; `FF` if there is no such object.
abbrev pub shelf_reply : {P Q R S : Type 0} → (P → List ℕ → List ℕ) → (Q → List ℕ → List ℕ) → (R → List ℕ → List ℕ)
    → (S → List ℕ → List ℕ) → P × Q × R × S → List ℕ → List ℕ
shelf_reply p q r s objects [] = unreadable_reply
shelf_reply p q r s objects (which ∷ op) =
    if which == 0 then p objects.0 op
    else if which == 1 then q objects.1 op
    else if which == 2 then r objects.2 op
    else if which == 3 then s objects.3 op
    else unreadable_reply

-- The objects after the bytes of an operation: only the object with this number changes.
abbrev pub shelf_next : {P Q R S : Type 0} → (P → List ℕ → P) → (Q → List ℕ → Q) → (R → List ℕ → R) → (S → List ℕ → S) → P × Q × R × S → List ℕ → P × Q × R × S
shelf_next p q r s objects [] = objects
shelf_next p q r s objects (which ∷ op) =
    if which == 0 then (p objects.0 op, objects.1, objects.2, objects.3)
    else if which == 1 then (objects.0, q objects.1 op, objects.2, objects.3)
    else if which == 2 then (objects.0, objects.1, r objects.2 op, objects.3)
    else if which == 3 then (objects.0, objects.1, objects.2, s objects.3 op)
    else objects

-- The text at the start of the bytes, preceded by its length, and the rest of the bytes.
unfoldable pub first_text : ℕ → List ℕ → Option (List ℕ × List ℕ)
first_text width bytes =
    if nat_le width (length bytes) && nat_le (big_number width bytes) (length (drop width bytes))
    then Some (take (big_number width bytes) (drop width bytes), drop (big_number width bytes) (drop width bytes))
    else None

-- The four texts that the bytes consist of, each preceded by its length in 8 bytes.
abbrev pub texts_of : List ℕ → Option (List ℕ × List ℕ × List ℕ × List ℕ)
texts_of bytes =
    option_and_then (λ (p : List ℕ × List ℕ).
    option_and_then (λ (q : List ℕ × List ℕ).
    option_and_then (λ (r : List ℕ × List ℕ).
    option_and_then (λ (s : List ℕ × List ℕ). if length s.1 == 0 then Some (p.0, q.0, r.0, s.0) else None) (first_text 8 r.1))
    (first_text 8 q.1))
    (first_text 8 p.1))
    (first_text 8 bytes)

-- The snapshot of four objects: their snapshots in turn, each preceded by its length in 8 bytes.
abbrev pub shelf_snapshot : {P Q R S : Type 0} → (P → List ℕ) → (Q → List ℕ) → (R → List ℕ) → (S → List ℕ) → P × Q × R × S → List ℕ
shelf_snapshot p q r s objects = sized 8 (p objects.0) ++ (sized 8 (q objects.1) ++ (sized 8 (r objects.2) ++ sized 8 (s objects.3)))

-- The pair of two values, if both are there.
abbrev pub both_of : {A B : Type 0} → Option A → Option B → Option (A × B)
both_of (Some a) (Some b) = Some (a, b)
both_of (Some a) None = None
both_of None b = None

-- The four values of two pairs, if both pairs are there.
abbrev pub four_of : {P Q R S : Type 0} → Option ((P × Q) × (R × S)) → Option (P × Q × R × S)
four_of (Some pairs) = Some (pairs.0.0, pairs.0.1, pairs.1.0, pairs.1.1)
four_of None = None

-- The four objects whose snapshots are the texts, if each text is one.
abbrev pub objects_of : {P Q R S : Type 0} → (List ℕ → Option P) → (List ℕ → Option Q) → (List ℕ → Option R)
    → (List ℕ → Option S) → List ℕ × List ℕ × List ℕ × List ℕ → Option (P × Q × R × S)
objects_of p q r s texts = four_of (both_of (both_of (p texts.0) (q texts.1)) (both_of (r texts.2) (s texts.3)))

-- The four objects whose snapshot is the bytes, if they are one.
abbrev pub shelf_of : {P Q R S : Type 0} → (List ℕ → Option P) → (List ℕ → Option Q) → (List ℕ → Option R)
    → (List ℕ → Option S) → List ℕ → Option (P × Q × R × S)
shelf_of p q r s bytes = option_and_then (objects_of p q r s) (texts_of bytes)
