-- Appending piece by piece appends the whole.
use Rattle.std.proofs.Common.{◌≡◌, ℕ, ◌+◌, ◌<◌, List, [], ◌∷◌, ◌++◌, length, get_or, take, sym, ap, ◌∙◌, append_assoc}
use Rattle.std.specs.List.{flat_map}
use Rattle.std.proofs.lemmas.List.{take_more, get_or_default, flat_map_more}
use Rattle.byteorder.specs.Endian.{big_bytes}
use Rattle.ring_things.specs.Numbers as numbers
use Rattle.ring_things.specs.Names as names

-- The encoding of one item more is appended to that of the others.
one_more : {X A : Type 0} (f : X → List A) (items : List X) (item : X) (i : ℕ) (front before : List A) → i < length items
    → item ≡ get_or items i item → before ≡ front ++ flat_map f (take i items) → before ++ f item ≡ front ++ flat_map f (take (i + 1) items)
one_more f items item i front before within is was =
    let more : take (i + 1) items ≡ take i items ++ item ∷ [] = take_more items i item within ∙ ap (λ x. take i items ++ x ∷ []) (sym is) in
    ap (λ xs. xs ++ f item) was ∙ flat_map_more f front (take i items) item ∙ ap (λ xs. front ++ flat_map f xs) (sym more)

-- A number is appended.
pub number_appended : (items : List ℕ) (i : ℕ) (front before word after : List ℕ) → i < length items
    → word ≡ big_bytes 8 (get_or items i 0) → before ≡ front ++ numbers.list_encoding 8 (take i items) → after ≡ before ++ word
    → after ≡ front ++ numbers.list_encoding 8 (take (i + 1) items)
number_appended items i front before word after within list_encoding was now =
    now ∙ ap (λ xs. before ++ xs) list_encoding ∙ one_more (λ n. big_bytes 8 n) items (get_or items i 0) i front before within
    (get_or_default items i 0 (get_or items i 0) within) was

-- A name is appended: its length, and its bytes.
pub name_appended : (items : List (List ℕ)) (name : List ℕ) (i : ℕ) (front head before behind after : List ℕ) → i < length items
    → name ≡ get_or items i name → before ≡ front ++ (head ++ names.list_encoding (take i items)) → behind ≡ before ++ length name ∷ []
    → after ≡ behind ++ name → after ≡ front ++ (head ++ names.list_encoding (take (i + 1) items))
name_appended items name i front head before behind after within is was len now =
    now ∙ ap (λ xs. xs ++ name) len ∙ append_assoc before (length name ∷ []) name
    ∙ one_more (λ (n : List ℕ). length n ∷ n) items name i (front ++ head) before within is
    (was ∙ sym (append_assoc front head (names.list_encoding (take i items))))
    ∙ append_assoc front head (names.list_encoding (take (i + 1) items))
