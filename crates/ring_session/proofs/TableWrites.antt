-- The table after the code's writes.
use Rattle.std.proofs.Common.{◌≡◌, ℕ, ◌+◌, ◌<◌, ◌≤◌, ◌==◌, ◌&&◌, ◌||◌, nat_lt, true, false, List, length, Some, None, is_some, ap, sym, subst, ◌∙◌, arith, All}
use Rattle.std.specs.BTreeMap.{insert_entry, is_at}
use Rattle.std.specs.List.Sorted.{IsStrictlySortedBy}
use Rattle.std.specs.Map.{lookup, keys_of, values_of, set_value, remove_entry}
use Rattle.std.specs.Ordering.{nat_cmp}
use Rattle.std.proofs.lemmas.Bool.{cond-true, cond-false, eq-eqb}
use Rattle.std.proofs.lemmas.Map.{length-set_value}
use Rattle.std.proofs.lemmas.Map.Steps.{set_value_same}
use Rattle.std.proofs.lemmas.Map.Views.{All-values-insert_entry}
use Rattle.ring_object.specs.Operations.{Sequential}
use Rattle.ring_payload.specs.declared.call.Call.{Call}
use Rattle.std.specs.List.{AllZip}
use Rattle.std.proofs.lemmas.List.Elements.{same_from_all_zip}
use Rattle.ring_session.specs.Deduplicated.{max_clients}
use Rattle.ring_session.specs.Table.{LastCall, IsTable, table_of, last_number, last_call, takes_effect_in_table, table_next}
use Rattle.ring_session.proofs.Entries.{set_value-known, remove_entry-new, length-new}

-- ---- the sessions after a write

-- A session written back unchanged.
pub written_same : (es after : List (ℕ × LastCall)) (client : ℕ) (last new : LastCall)
    → after ≡ set_value (is_at (nat_cmp client)) es new → lookup (is_at (nat_cmp client)) es ≡ Some last → new ≡ last
    → after ≡ es
written_same es after client last new written found same = written ∙ ap (set_value (is_at (nat_cmp client)) es) same
    ∙ set_value_same (is_at (nat_cmp client)) es last found

-- A session inserted and removed.
pub taken_out : (es put after : List (ℕ × LastCall)) (client : ℕ) (new : LastCall) → after ≡ remove_entry
    (is_at (nat_cmp client)) put → put ≡ insert_entry nat_cmp es client new → lookup (is_at (nat_cmp client)) es ≡ None
    → after ≡ es
taken_out es put after client new out was none = out ∙ ap (remove_entry (is_at (nat_cmp client))) was ∙ remove_entry-new es client new none

-- ---- the invariant of every table

-- Clients with the same numbers and last calls are equal.
pub copied_same : (es copies : List (ℕ × LastCall)) → AllZip (λ p q. (q.0 ≡ p.0) × (q.1 ≡ p.1)) es copies → copies ≡ es
copied_same es copies are =
    same_from_all_zip (λ p q. (q.0 ≡ p.0) × (q.1 ≡ p.1)) es copies are
    (λ p q same. ap (λ (n : ℕ). (n, q.1)) same.0 ∙ ap (λ (last : LastCall). (p.0, last)) same.1)

pub IsTable-content : {O : Type 0} (es after : List (ℕ × LastCall)) (content content' : O)
    → IsTable (table_of es content) → after ≡ es → IsTable (table_of after content')
IsTable-content es after content content' is same = record {
  few = subst (λ (l : List (ℕ × LastCall)). length l ≤ max_clients) (sym same) is.few;
  numbered = subst (λ (l : List (ℕ × LastCall)). All (λ (last : LastCall). 1 ≤ last.number) (values_of l)) (sym same) is.numbered;
}

pub IsTable-known : {O : Type 0} (es after : List (ℕ × LastCall)) (client : ℕ) (last new : LastCall)
    (content content' : O) → IsTable (table_of es content) → IsStrictlySortedBy nat_cmp (keys_of es)
    → lookup (is_at (nat_cmp client)) es ≡ Some last → after ≡ set_value (is_at (nat_cmp client)) es new → 1 ≤ new.number → IsTable (table_of after content')
IsTable-known es after client last new content content' is sorted found written number = record {
  few = omega (arith, is.few, ap length written, length-set_value (is_at (nat_cmp client)) es new);
  numbered =
      subst (λ (l : List (ℕ × LastCall)). All (λ (last : LastCall). 1 ≤ last.number) (values_of l))
      (sym (written ∙ set_value-known es client new last sorted found))
      (All-values-insert_entry nat_cmp client new (λ (last : LastCall). 1 ≤ last.number) es is.numbered number);
}

pub IsTable-new : {O : Type 0} (es after : List (ℕ × LastCall)) (client : ℕ) (new : LastCall) (content content' : O)
    → IsTable (table_of es content) → lookup (is_at (nat_cmp client)) es ≡ None → length es < max_clients
    → after ≡ insert_entry nat_cmp es client new → 1 ≤ new.number → IsTable (table_of after content')
IsTable-new es after client new content content' is none room put number = record {
  few = omega (arith, room, ap length put, length-new es client new none);
  numbered =
      subst (λ (l : List (ℕ × LastCall)). All (λ (last : LastCall). 1 ≤ last.number) (values_of l)) (sym put)
      (All-values-insert_entry nat_cmp client new (λ (last : LastCall). 1 ≤ last.number) es is.numbered number);
}

-- ---- the table after a call

-- The next call of a known client.
pub next-known : {O A : Type 0} (object : Sequential O) (es after : List (ℕ × LastCall)) (content content' : O)
    (c : Call A) (last : LastCall) → IsStrictlySortedBy nat_cmp (keys_of es)
    → lookup (is_at (nat_cmp c.client)) es ≡ Some last → c.number ≡ last.number + 1
    → after ≡ set_value (is_at (nat_cmp c.client)) es (last_call c (object.reply content c.op))
    → content' ≡ object.next content c.op
    → table_of after content' ≡ table_next object (table_of es content) c
next-known {O} {A} object es after content content' c last sorted found number written does =
    let new = last_call c (object.reply content c.op) in
    let taken : takes_effect_in_table (table_of es content) c ≡ true =
    ap (λ o. (c.number == last_number o + 1) && (is_some o || nat_lt (length es) max_clients)) found
    ∙ ap (λ b. b && (true || nat_lt (length es) max_clients)) (eq-eqb c.number (last.number + 1) number) in
    ap (λ w. table_of w content') (written ∙ set_value-known es c.client new last sorted found)
    ∙ ap (λ (w : O). table_of (insert_entry nat_cmp es c.client new) w) does
    ∙ sym (cond-true (takes_effect_in_table (table_of es content) c) (table_of (insert_entry nat_cmp es c.client new)
    (object.next content c.op)) (table_of es content) taken)

-- Another call of a known client.
pub next-other : {O A : Type 0} (object : Sequential O) (es after : List (ℕ × LastCall)) (content : O) (c : Call A) (last : LastCall)
    → lookup (is_at (nat_cmp c.client)) es ≡ Some last → false ≡ (c.number == last.number + 1) → after ≡ es
    → table_of after content ≡ table_next object (table_of es content) c
next-other {O} {A} object es after content c last found other same =
    let left : takes_effect_in_table (table_of es content) c ≡ false =
    ap (λ o. (c.number == last_number o + 1) && (is_some o || nat_lt (length es) max_clients)) found
    ∙ ap (λ b. b && (true || nat_lt (length es) max_clients)) (sym other) in
    ap (λ w. table_of w content) same
    ∙ sym (cond-false (takes_effect_in_table (table_of es content) c)
    (table_of (insert_entry nat_cmp es c.client (last_call c (object.reply content c.op)))
    (object.next content c.op)) (table_of es content) left)
