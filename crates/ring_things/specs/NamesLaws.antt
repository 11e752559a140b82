-- A set of names satisfies the laws of objects.
-- Rules: Objects 1 to 3
use Rattle.std.proofs.Common.{◌≡◌, ℕ, zero, suc, ◌+◌, ◌<◌, ◌≤◌, false, true, ◌==◌, nat_le, ◌&&◌, not, List, [], ◌∷◌}
use Rattle.std.proofs.Common.{◌++◌, length, take, drop, insert, All, Option, Some, None, refl, sym, ap, ◌∙◌, subst}
use Rattle.std.proofs.Common.{arith, eqb-true}
use Rattle.std.specs.List.{AllByRecursion}
use Rattle.std.specs.List.Sorted.{IsStrictlySortedBy}
use Rattle.std.specs.Ordering.{is_lt, is_eq, ordering_reverse}
use Rattle.std.specs.declared.cmp.Ordering.{Ordering}
use Rattle.std.specs.declared.cmp.Ordering.TheVariants.{Less, Equal, Greater}
use Rattle.std.proofs.lemmas.Cmp.{nat_list_cmp_total}
use Rattle.std.proofs.lemmas.Bool.{cond_both, cond-true, eqb-false, leb-true, le-leb, and_parts, and_from, or_parts}
use Rattle.std.proofs.lemmas.List.{length-append, length-drop, length-take, take-append-drop, drop_at, take_at, nil_from_length}
use Rattle.std.proofs.lemmas.Option.{same_Some}
use Rattle.std.proofs.lemmas.List.Concat.{flat_map-cons}
use Rattle.std.proofs.lemmas.List.Elements.{All-nil, All-cons, All-head, All-tail, All-drop, All-take, All-append}
use Rattle.std.proofs.lemmas.List.Elements.{All-weaker, All-filter, All-from_recursion, recursion_from_All}
use Rattle.std.proofs.lemmas.List.Kept.{IsStrictlySortedBy-filter}
use Rattle.byteorder.specs.Endian.{big_number}
use Rattle.ring_base.proofs.Cases.{none_of, map_some, Less-from}
use Rattle.ring_object.specs.Bytes.{AreBytes}
use Rattle.ring_object.specs.Operations.{IsReply, unreadable_reply}
use Rattle.ring_object.specs.Snapshots.{HasExactSnapshots}
use Rattle.ring_base.proofs.Cases.{guarded_some, and_then_some}
use Rattle.ring_things.specs.Numbers.{exact_2, sized_text-split, sized_text-join}
use Rattle.ring_things.specs.ReplyBytes.{code_fits, AreBytes-rest, AreBytes-drop, AreBytes-take}
use Rattle.ring_things.specs.Names.{max_names, IsName, is_name, by_bytes, AreAscending, IsSet, same, has, below, with_name}
use Rattle.ring_things.specs.Names.{without_name, name_operation, decoding, is_readable, reply, next, reply_to, after, list_encoding}
use Rattle.ring_things.specs.Names.{snapshot_of, next_name, names_of, set_of}
use Rattle.ring_things.specs.declared.names.NamesOperation.{NamesOperation}
use Rattle.ring_things.specs.declared.names.NamesOperation.TheVariants.{Insert, Remove, Has}

-- The empty list is a set.
pub empty_IsSet : IsSet []
unfolding IsStrictlySortedBy
empty_IsSet = record { few = omega arith; each = All-nil IsName; ascending = tt }

-- The operand of a decoded operation is a name.
abbrev pub Fits : Option NamesOperation → Type 0
Fits (Some (Insert name)) = IsName name
Fits (Some (Remove name)) = IsName name
Fits (Some (Has name)) = IsName name
Fits None = Unit {0}

name_operation_fits : (code : ℕ) (name : List ℕ) → IsName name → Fits (name_operation code name)
name_operation_fits code name is =
    cond_both (code == 1) _ _ Fits (λ _. is) (λ _. cond_both (code == 2) _ _ Fits (λ _. is) (λ _. cond_both (code == 3) _ _ Fits (λ _. is) (λ _. tt)))

-- The operand of every operation decoded from bytes is a name.
pub decoding_fits : (op : List ℕ) → AreBytes op → Fits (decoding op)
decoding_fits [] are = tt
decoding_fits (code ∷ name) are =
    cond_both (is_name name) _ _ Fits
    (λ holds.
    let parts = and_parts (nat_le 1 (length name)) _ holds in
    name_operation_fits code name (record { some = leb-true _ _ parts.0; short = leb-true _ _ parts.1; bytes = AreBytes-rest code name are }))
    (λ _. tt)

above_by : (o p : Ordering) → is_lt o ≡ false → is_eq o ≡ false → p ≡ ordering_reverse o → p ≡ Less
above_by Less p not_less not_equal is = absurd cc
above_by Equal p not_less not_equal is = absurd cc
above_by Greater p not_less not_equal is = is

-- A name that is neither below another nor equal to it is above it.
pub above : (other name : List ℕ) → is_lt (by_bytes other name) ≡ false → same name other ≡ false → by_bytes name other ≡ Less
above other name not_below differs = above_by (by_bytes other name) (by_bytes name other) not_below differs (nat_list_cmp_total.antisymm name other)

-- A name below the first of ascending names is below all of them.
pub All-above : (name other : List ℕ) (names : List (List ℕ)) → by_bytes name other ≡ Less
    → AllByRecursion (λ y. by_bytes other y ≡ Less) names → AllByRecursion (λ y. by_bytes name y ≡ Less) names
All-above name other [] before each = tt
All-above name other (x ∷ xs) before each = (nat_list_cmp_total.trans name other x before each.0, All-above name other xs before each.1)

All-insert : (P : List ℕ → Type 0) (names : List (List ℕ)) (i : ℕ) (name : List ℕ) → All P names → P name → All P (insert names i name)
All-insert P names i name each this = All-append P (take i names) (name ∷ drop i names) (All-take P i names each)
    (All-cons P name (drop i names) this (All-drop P i names each))

-- A set stays ascending if a name is inserted at its index.
pub AreAscending-with_name : (name : List ℕ) (names : List (List ℕ)) → has name names ≡ false → AreAscending names → AreAscending (with_name name names)
unfolding IsStrictlySortedBy below
AreAscending-with_name name [] missing ascending = (tt, tt)
AreAscending-with_name name (x ∷ xs) missing ascending =
    let parts = or_parts (same name x) (has name xs) missing in
    cond_both (is_lt (by_bytes x name)) (suc (below name xs)) 0 (λ (i : ℕ). AreAscending (insert (x ∷ xs) i name))
    (λ lower. (
      recursion_from_All (λ y. by_bytes x y ≡ Less) (with_name name xs)
          (All-insert (λ y. by_bytes x y ≡ Less) xs (below name xs) name
          (All-from_recursion (λ y. by_bytes x y ≡ Less) xs ascending.0) (Less-from (by_bytes x name) lower)),
      AreAscending-with_name name xs parts.1 ascending.1,
    ))
    (λ not_lower. let up = above x name not_lower parts.0 in ((up, All-above name x xs up ascending.0), ascending))

length-with_name : (name : List ℕ) (names : List (List ℕ)) → length (with_name name names) ≡ length names + 1
length-with_name name names =
    let i = below name names in
    omega (arith, length-append (take i names) (name ∷ drop i names), length-take i names, length-drop i names)

length-without_name : (name : List ℕ) (names : List (List ℕ)) → length (without_name name names) ≤ length names
length-without_name name [] = omega arith
length-without_name name (x ∷ xs) =
    let others = length-without_name name xs in
    cond_both (not (same name x)) (x ∷ without_name name xs) (without_name name xs) (λ ys. length ys ≤ length (x ∷ xs)) (λ _. omega arith) (λ _. omega arith)

-- A set with room is still a set after a name is inserted.
pub IsSet-with_name : (name : List ℕ) (names : List (List ℕ)) → IsName name → has name names ≡ false
    → length names < max_names → IsSet names → IsSet (with_name name names)
IsSet-with_name name names fits missing room is = record {
  few = omega (arith, length-with_name name names);
  each = All-insert IsName names (below name names) name is.each fits;
  ascending = AreAscending-with_name name names missing is.ascending;
}

-- A set is still a set after a name is removed.
pub IsSet-without_name : (name : List ℕ) (names : List (List ℕ)) → IsSet names → IsSet (without_name name names)
IsSet-without_name name names is = record {
  few = omega (arith, length-without_name name names, is.few);
  each = All-filter (λ other. not (same name other)) IsName names is.each;
  ascending = IsStrictlySortedBy-filter by_bytes (λ other. not (same name other)) names is.ascending;
}

after_kept : (names : List (List ℕ)) (op : Option NamesOperation) → Fits op → IsSet names → IsSet (after names op)
after_kept names (Some (Insert name)) fits is =
    cond_both (has name names) _ _ IsSet (λ _. is)
    (λ missing. cond_both (length names == max_names) _ _ IsSet (λ _. is) (λ room. IsSet-with_name name names fits missing
    (omega (arith, is.few, eqb-false _ _ room)) is))
after_kept names (Some (Remove name)) fits is = IsSet-without_name name names is
after_kept names (Some (Has name)) fits is = is
after_kept names None fits is = is

-- After every operation the content is a set.
pub next_kept : (names : List (List ℕ)) (op : List ℕ) → AreBytes op → IsSet names → IsSet (next names op)
next_kept names op are is = after_kept names (decoding op) (decoding_fits op are) is

reply_fits : (names : List (List ℕ)) (op : Option NamesOperation) → IsReply (reply_to names op)
reply_fits names (Some (Insert name)) =
    cond_both (has name names) _ _ IsReply (λ _. code_fits 1 (omega arith))
    (λ _. cond_both (length names == max_names) _ _ IsReply (λ _. code_fits 2 (omega arith)) (λ _. code_fits 0 (omega arith)))
reply_fits names (Some (Remove name)) = cond_both (has name names) _ _ IsReply (λ _. code_fits 0 (omega arith)) (λ _. code_fits 1 (omega arith))
reply_fits names (Some (Has name)) = cond_both (has name names) _ _ IsReply (λ _. code_fits 0 (omega arith)) (λ _. code_fits 1 (omega arith))
reply_fits names None = code_fits 255 (omega arith)

-- Every reply has at most 64 bytes.
pub replies_fit : (names : List (List ℕ)) (op : List ℕ) → AreBytes op → IsSet names → IsReply (reply names op)
replies_fit names op are is = reply_fits names (decoding op)

-- Bytes that are no operation get the reply `FF` and change nothing.
pub ignored : (names : List (List ℕ)) (op : List ℕ) → is_readable op ≡ false → (reply names op ≡ unreadable_reply) × (next names op ≡ names)
ignored names op none = rw (none_of (decoding op) none) (refl, refl)

-- The encoding of a name above the last one, followed by any bytes, is decoded to that name.
next_first : (last name rest : List ℕ) → IsName name → by_bytes last name ≡ Less → next_name last (length name ∷ (name ++ rest)) ≡ Some name
next_first last name rest is up =
    let front : take (length name) (name ++ rest) ≡ name = take_at name rest (length name) refl in
    let long : length name ≤ length (name ++ rest) = omega (arith, length-append name rest) in
    let test : ((nat_le 1 (length name) && nat_le (length name) 64) && (nat_le (length name) (length (name ++ rest))
    && is_lt (by_bytes last (take (length name) (name ++ rest))))) ≡ true =
    and_from _ _ (and_from _ _ (le-leb _ _ is.some) (le-leb _ _ is.short)) (and_from _ _ (le-leb _ _ long) (rw (front, up) refl)) in
    cond-true _ _ _ test ∙ ap Some front

-- The encoding of ascending names above the last one is decoded to these names.
names_of-list_encoding : (last : List ℕ) (names : List (List ℕ)) → All IsName names → AreAscending (last ∷ names) → names_of (length names) last (list_encoding names) ≡ Some names
unfolding names_of IsStrictlySortedBy
names_of-list_encoding last [] each ascending = refl
names_of-list_encoding last (x ∷ xs) each ascending =
    let first : next_name last (length x ∷ (x ++ list_encoding xs)) ≡ Some x = next_first last x (list_encoding xs) (All-head IsName x xs each) ascending.0.0 in
    let rest : drop (length x) (x ++ list_encoding xs) ≡ list_encoding xs = drop_at x (list_encoding xs) (length x) refl in
    let others : names_of (length xs) x (list_encoding xs) ≡ Some xs = names_of-list_encoding x xs (All-tail IsName x xs each) ascending.1 in
    rw (flat_map-cons (λ (name : List ℕ). length name ∷ name) x xs, first, rest, others) refl

-- A decoded name is above the last one, and the bytes begin with its encoding.
record IsNext (last bytes name : List ℕ) : Type 0 where
  is : IsName name
  up : by_bytes last name ≡ Less
  text : length name ∷ (name ++ drop (suc (length name)) bytes) ≡ bytes

next_exact : (last bytes name : List ℕ) → AreBytes bytes → next_name last bytes ≡ Some name → IsNext last bytes name
next_exact last [] name are is = absurd cc
next_exact last (len ∷ rest) name are is =
    let g = guarded_some ((nat_le 1 len && nat_le len 64) && (nat_le len (length rest) && is_lt (by_bytes last (take len rest)))) (Some (take len rest)) name is in
    let a = and_parts (nat_le 1 len && nat_le len 64) _ g.0 in
    let sizes = and_parts (nat_le 1 len) _ a.0 in
    let b = and_parts (nat_le len (length rest)) _ a.1 in
    let size : length (take len rest) ≡ len = omega (arith, length-take len rest, leb-true _ _ b.0) in
    let P : List ℕ → Type 0 = λ x. IsNext last (len ∷ rest) x in
    subst P (same_Some _ _ g.1) (record {
      is = record {
        some = omega (arith, size, leb-true _ _ sizes.0);
        short = omega (arith, size, leb-true _ _ sizes.1);
        bytes = AreBytes-take len rest (AreBytes-rest len rest are);
      };
      up = Less-from _ b.1;
      text = rw size (ap (λ xs. len ∷ xs) (take-append-drop len rest));
    })

-- Decoded names are exactly `count`, ascending and above the last one, and the bytes are their encoding.
record AreNext (count : ℕ) (last bytes : List ℕ) (names : List (List ℕ)) : Type 0 where
  many : length names ≡ count
  each : All IsName names
  ascending : AreAscending (last ∷ names)
  text : list_encoding names ≡ bytes

exact : (count : ℕ) (last bytes : List ℕ) (names : List (List ℕ)) → AreBytes bytes → names_of count last bytes ≡ Some names → AreNext count last bytes names
unfolding names_of IsStrictlySortedBy
exact zero last bytes names are is =
    let g = guarded_some (length bytes == 0) (Some []) names is in
    let none : bytes ≡ [] = nil_from_length bytes (eqb-true _ _ g.0) in
    let P : List (List ℕ) → Type 0 = λ xs. AreNext 0 last bytes xs in
    subst P (same_Some _ _ g.1) (record { many = refl; each = All-nil IsName; ascending = (tt, tt); text = sym none })
exact (suc count) last bytes names are is =
    let found = and_then_some _ (next_name last bytes) names is in
    let name = found.0 in
    let others = map_some _ (names_of count name (drop (suc (length name)) bytes)) names found.2 in
    let first = next_exact last bytes name are found.1 in
    let rest = exact count name (drop (suc (length name)) bytes) others.0 (AreBytes-drop (suc (length name)) bytes are) others.1 in
    let P : List (List ℕ) → Type 0 = λ xs. AreNext (suc count) last bytes xs in
    subst P others.2 (record {
      many = ap suc rest.many;
      each = All-cons IsName name others.0 first.is rest.each;
      ascending = ((first.up, All-above last name others.0 first.up rest.ascending.0), rest.ascending);
      text = rw (flat_map-cons (λ (x : List ℕ). length x ∷ x) name others.0, rest.text) first.text;
    })

nothing_below : (name : List ℕ) → IsName name → by_bytes [] name ≡ Less
nothing_below [] is = absurd (omega (arith, is.some))
nothing_below (x ∷ xs) is = refl

-- The empty text is below every name.
AreAscending-from_nothing : (names : List (List ℕ)) → All IsName names → AreAscending names → AreAscending ([] ∷ names)
unfolding IsStrictlySortedBy
AreAscending-from_nothing names each ascending = (
  recursion_from_All (λ y. by_bytes [] y ≡ Less) names
      (All-weaker IsName (λ y. by_bytes [] y ≡ Less) nothing_below names each),
  ascending,
)

-- Names decoded from a snapshot are a set.
pub IsSet-names_of : (count : ℕ) (bytes : List ℕ) (names : List (List ℕ)) → count ≤ max_names → AreBytes bytes
    → names_of count [] bytes ≡ Some names → IsSet names × (length names ≡ count) × (list_encoding names ≡ bytes)
unfolding IsStrictlySortedBy
IsSet-names_of count bytes names few are is =
    let read = exact count [] bytes names are is in
    (record { few = omega (arith, read.many); each = read.each; ascending = read.ascending.1 }, read.many, read.text)

restored : (names : List (List ℕ)) → IsSet names → set_of (snapshot_of names) ≡ Some names
restored names is =
    let parts = sized_text-split 2 (length names) (list_encoding names) (omega (arith, is.few)) in
    let long : 2 ≤ length (snapshot_of names) = omega arith in
    let few : big_number 2 (snapshot_of names) ≤ max_names = rw parts.0 is.few in
    let whole : names_of (big_number 2 (snapshot_of names)) [] (drop 2 (snapshot_of names)) ≡ Some names =
    rw (parts.0, parts.1) (names_of-list_encoding [] names is.each (AreAscending-from_nothing names is.each is.ascending)) in
    cond-true _ _ _ (and_from _ _ (le-leb _ _ long) (le-leb _ _ few)) ∙ whole

only : (bytes : List ℕ) (names : List (List ℕ)) → AreBytes bytes → set_of bytes ≡ Some names → IsSet names × (snapshot_of names ≡ bytes)
only bytes names are is =
    let g = guarded_some (nat_le 2 (length bytes) && nat_le (big_number 2 bytes) max_names) _ names is in
    let a = and_parts (nat_le 2 (length bytes)) _ g.0 in
    let read = IsSet-names_of (big_number 2 bytes) (drop 2 bytes) names (leb-true _ _ a.1) (AreBytes-drop 2 bytes are) g.1 in
    (read.0, sized_text-join 2 exact_2 bytes (leb-true _ _ a.0) are (length names) (list_encoding names) read.1 read.2)

-- Exactly the snapshots of sets are restored, each to its set.
pub sets_restore : HasExactSnapshots IsSet snapshot_of set_of
sets_restore = record { same = λ names is short. restored names is; only = only }
