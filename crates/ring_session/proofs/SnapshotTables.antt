-- The table after calls within the limits has a snapshot that restores it.
use Rattle.std.proofs.Common.{◌≡◌, ℕ, suc, ◌+◌, ◌<◌, ◌≤◌, ◌==◌, ◌||◌, nat_lt, true, List, [], ◌∷◌, length, All}
use Rattle.std.proofs.Common.{Option, Some, None, is_some, fold, refl, sym, ap, subst, ◌∙◌, arith}
use Rattle.std.specs.BTreeMap.{insert_entry, is_at}
use Rattle.std.specs.Cmp.{nat_cmp_is}
use Rattle.std.specs.List.{AllByRecursion}
use Rattle.std.specs.List.Sorted.{IsStrictlySortedBy}
use Rattle.std.specs.Map.{lookup, keys_of}
use Rattle.std.specs.Ordering.{nat_cmp, match_ordering}
use Rattle.std.specs.declared.cmp.Ordering.{Ordering}
use Rattle.std.specs.declared.cmp.Ordering.TheVariants.{Less, Equal, Greater}
use Rattle.std.proofs.lemmas.Bool.{cond_both, and_parts, ltb-true}
use Rattle.std.proofs.lemmas.Cmp.{ranked}
use Rattle.std.proofs.lemmas.List.Elements.{All-head, All-tail}
use Rattle.std.proofs.lemmas.Map.{length-set_value}
use Rattle.ring_object.specs.Bytes.{AreBytes}
use Rattle.ring_object.specs.Operations.{Sequential, IsReply}
use Rattle.ring_payload.specs.declared.call.Call.{Call}
use Rattle.ring_session.specs.Deduplicated.{max_clients}
use Rattle.ring_session.specs.Snapshots.{AreClientsFrom, ClientFits, HasSnapshot, KeepsLimits}
use Rattle.ring_session.specs.Table.{LastCall, Table, table_of, last_call, last_number, session_of, takes_effect_in_table, table_next, table_after, opening}
use Rattle.ring_session.proofs.Entries.{set_value-known, length-new}

-- ---- ascending clients

all_above : (x low : ℕ) (ss : List (ℕ × LastCall)) → x < low → AreClientsFrom low ss → AllByRecursion (λ y. nat_cmp x y ≡ Less) (keys_of ss)
all_above x low [] less are = tt
all_above x low (s ∷ ss) less are =
    (sym (nat_cmp_is x s.0 Less (omega (arith, less, are.1))), all_above x (suc s.0) ss (omega (arith, less, are.1)) are.2)

AreClientsFrom-sorted : (low : ℕ) (ss : List (ℕ × LastCall)) → AreClientsFrom low ss → IsStrictlySortedBy nat_cmp (keys_of ss)
unfolding IsStrictlySortedBy
AreClientsFrom-sorted low [] are = tt
AreClientsFrom-sorted low (s ∷ ss) are = (all_above s.0 (suc s.0) ss (omega arith) are.2, AreClientsFrom-sorted (suc s.0) ss are.2)

from_step : (low : ℕ) (s : ℕ × LastCall) (ss : List (ℕ × LastCall)) (client : ℕ) (last : LastCall) (o : Ordering) → o ≡ nat_cmp client s.0
    → ClientFits (client, last) → low ≤ client → AreClientsFrom low (s ∷ ss) → (suc s.0 ≤ client → AreClientsFrom (suc s.0) (insert_entry nat_cmp ss client last))
    → AreClientsFrom low (match_ordering o ((client, last) ∷ s ∷ ss) ((s.0, last) ∷ ss) (s ∷ insert_entry nat_cmp ss client last))
from_step low s ss client last Less is fits le are rest =
    (fits, le, (are.0, omega (arith, ranked client s.0 Less is), are.2))
from_step low s ss client last Equal is fits le are rest =
    let same : client ≡ s.0 = ranked client s.0 Equal is in
    (subst (λ (k : ℕ). ClientFits (k, last)) same fits, are.1, are.2)
from_step low s ss client last Greater is fits le are rest =
    (are.0, are.1, rest (omega (arith, ranked client s.0 Greater is)))

AreClientsFrom-insert : (low : ℕ) (ss : List (ℕ × LastCall)) (client : ℕ) (last : LastCall) → ClientFits (client, last) → low ≤ client → AreClientsFrom low ss
    → AreClientsFrom low (insert_entry nat_cmp ss client last)
AreClientsFrom-insert low [] client last fits le are = (fits, le, tt)
AreClientsFrom-insert low (s ∷ ss) client last fits le are =
    from_step low s ss client last (nat_cmp client s.0) refl fits le are (λ above. AreClientsFrom-insert (suc s.0) ss client last fits above are.2)

-- ---- few clients

few_step : (ss : List (ℕ × LastCall)) (client : ℕ) (last : LastCall) (o : Option LastCall) → lookup (is_at (nat_cmp client)) ss ≡ o
    → IsStrictlySortedBy nat_cmp (keys_of ss) → length ss ≤ max_clients → is_some o || nat_lt (length ss) max_clients ≡ true
    → length (insert_entry nat_cmp ss client last) ≤ max_clients
few_step ss client last None is sorted few room = omega (arith, length-new ss client last is, ltb-true _ _ room)
few_step ss client last (Some known) is sorted few room =
    let same : length (insert_entry nat_cmp ss client last) ≡ length ss =
    ap length (sym (set_value-known ss client last known sorted is)) ∙ length-set_value (is_at (nat_cmp client)) ss last in
    omega (arith, same, few)

-- ---- calls

module _ {O A : Type 0} (object : Sequential O) (IsContent : O → Type 0)
    (keeps : (o : O) (op : List ℕ) → AreBytes op → IsContent o → IsContent (object.next o op))
    (replies : (o : O) (op : List ℕ) → AreBytes op → IsContent o → IsReply (object.reply o op)) where
  one_call : (table : Table O) (c : Call A) → KeepsLimits c → HasSnapshot IsContent table → HasSnapshot IsContent (table_next object table c)
  one_call table c limits has =
      let reply = object.reply table.content c.op in
      let put = table_of (insert_entry nat_cmp table.sessions c.client (last_call c reply)) (object.next table.content c.op) in
      cond_both (takes_effect_in_table table c) put table (λ t. HasSnapshot IsContent t)
      (λ taken.
      let room = (and_parts (c.number == last_number (session_of table c.client) + 1) _ taken).1 in
      record {
        few = few_step table.sessions c.client (last_call c reply) (session_of table c.client) refl
            (AreClientsFrom-sorted 0 table.sessions has.clients) has.few room;
        clients = AreClientsFrom-insert 0 table.sessions c.client (last_call c reply) (record {
          client = limits.fits.client;
          number = limits.fits.number;
          number_fits = limits.fits.number_fits;
          operation = limits.fits.op;
          reply = (replies table.content c.op limits.bytes has.content).0;
        }) (omega arith) has.clients;
        content = keeps table.content c.op limits.bytes has.content;
      })
      (λ not. has)

  all_calls : (table : Table O) (calls : List (Call A)) → All KeepsLimits calls → HasSnapshot IsContent table
      → HasSnapshot IsContent (fold (table_next object) table calls)
  all_calls table [] limits has = has
  all_calls table (c ∷ cs) limits has =
      all_calls (table_next object table c) cs (All-tail KeepsLimits c cs limits) (one_call table c (All-head KeepsLimits c cs limits) has)

  pub HasSnapshot-after : (calls : List (Call A)) → All KeepsLimits calls → IsContent object.initial → HasSnapshot IsContent (table_after object calls)
  HasSnapshot-after calls limits starts =
      all_calls (opening object.initial) calls limits (record { few = omega arith; clients = tt; content = starts })
