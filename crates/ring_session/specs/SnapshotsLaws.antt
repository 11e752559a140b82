-- Exactly the snapshots of tables are restored, each to its table; and each table after calls within the limits has
-- one.
-- Rules: Sessions 12
-- Formats: Snapshots
use Rattle.std.proofs.Common.{◌≡◌, ℕ, zero, suc, ◌^◌, ◌<◌, ◌≤◌, ◌==◌, List, [], ◌∷◌, ◌++◌, length, drop, if◌then◌else◌, Option, Some, None, refl}
use Rattle.std.proofs.Common.{sym, ap, subst, ◌∙◌, arith, append_assoc, eqb-true}
use Rattle.std.specs.Prelude.{nat_le}
use Rattle.std.specs.List.{flat_map}
use Rattle.std.proofs.lemmas.Bool.{leb-true, le-leb}
use Rattle.std.proofs.lemmas.List.{append-nil, nil_from_length, length-append, drop_at}
use Rattle.std.proofs.lemmas.List.Concat.{flat_map-cons}
use Rattle.std.proofs.lemmas.List.Elements.{All-from_get_or, All-drop}
use Rattle.byteorder.specs.Endian.{big_bytes}
use Rattle.ring_base.proofs.Cases.{map_some}
use Rattle.ring_payload.specs.Codecs.{IsBytes, IsFormat, IsWord, IsSplitAfter, number_at, tested_at, ◌>>=◌, bind_some, some_injective, passed_some, IsSplitAfter-then}
use Rattle.ring_payload.specs.Codecs.{such_format, then_format, number_format2, u64_field, text, dependent_pair_format}
use Rattle.ring_object.specs.Bytes.{AreBytes, AreBytes-get_or}
use Rattle.ring_object.specs.Snapshots.{HasExactSnapshots}
use Rattle.ring_session.specs.Deduplicated.{max_clients}
use Rattle.ring_session.specs.Table.{LastCall, Table, table_of}
use Rattle.ring_session.specs.Snapshots.{ClientFits, client_encoding, client_at, client_format, AreClientsFrom, next_client_at, clients_at, table_snapshot}
use Rattle.ring_session.specs.Snapshots.{sessions_at, object_at, parts_at, table_with, restored_table, HasSnapshot}

-- ---- bytes

bytes_each : (bytes : List ℕ) → IsBytes bytes → AreBytes bytes
bytes_each bytes are = All-from_get_or (λ byte. byte < 256) bytes 0 (λ i within. are i)

-- A text that ends bytes consists of bytes.
rest_bytes : (front back bytes : List ℕ) → bytes ≡ front ++ back → IsBytes bytes → AreBytes back
rest_bytes front back bytes is are =
    let all : AreBytes (front ++ back) = rw (← is) (bytes_each bytes are) in
    let there : drop (length front) (front ++ back) ≡ back = drop_at front back (length front) refl in
    subst (λ (w : List ℕ). AreBytes w) there (All-drop (λ byte. byte < 256) (length front) (front ++ back) all)

-- ---- the clients

next_format : (low : ℕ) → IsFormat client_encoding (λ s. ClientFits s × (low ≤ s.0)) (next_client_at low)
next_format low = such_format client_encoding ClientFits (λ s. ClientFits s × (low ≤ s.0)) client_at (λ s. nat_le low s.0)
    (λ s f h. (f, leb-true low s.0 h)) (λ s f. (f.0, le-leb low s.0 f.1)) client_format

take_clients : (count low : ℕ) (bytes : List ℕ) (x : List (ℕ × LastCall) × List ℕ) → IsBytes bytes → clients_at count low bytes ≡ Some x
    → IsSplitAfter bytes (flat_map client_encoding x.0) x.1 × ((length x.0 ≡ count) × AreClientsFrom low x.0)
unfolding clients_at
take_clients zero low bytes x fits e =
    let P : List (ℕ × LastCall) × List ℕ → Type 0 = λ y. IsSplitAfter bytes (flat_map client_encoding y.0) y.1 × ((length y.0 ≡ 0) × AreClientsFrom low y.0) in
    subst P (some_injective ([], bytes) x e) (record { parts = refl; rest_fits = fits }, (refl, tt))
take_clients (suc count) low bytes x fits e =
    let a = bind_some (next_client_at low bytes) (λ first. clients_at count (suc first.0.0) first.1 >>= λ others. Some (first.0 ∷ others.0, others.1)) x e in
    let b = bind_some (clients_at count (suc a.0.0.0) a.0.1) (λ others. Some (a.0.0 ∷ others.0, others.1)) x a.2 in
    let first = (next_format low).takes bytes a.0 fits a.1 in
    let second = take_clients count (suc a.0.0.0) a.0.1 b.0 first.0.rest_fits b.1 in
    let both = IsSplitAfter-then bytes (client_encoding a.0.0) a.0.1 (flat_map client_encoding b.0.0) b.0.1 first.0 second.0 in
    let made : List (ℕ × LastCall) × List ℕ = (a.0.0 ∷ b.0.0, b.0.1) in
    let P : List (ℕ × LastCall) × List ℕ → Type 0 = λ y. IsSplitAfter bytes (flat_map client_encoding y.0) y.1 × ((length y.0 ≡ suc count) × AreClientsFrom low y.0) in
    subst P (some_injective made x b.2) (rw flat_map-cons both, (ap suc second.1.0, (first.1.0, first.1.1, second.1.1)))

again_clients : (low : ℕ) (ss : List (ℕ × LastCall)) (rest : List ℕ) → AreClientsFrom low ss
    → clients_at (length ss) low (flat_map client_encoding ss ++ rest) ≡ Some (ss, rest)
unfolding clients_at
again_clients low [] rest are = refl
again_clients low (s ∷ ss) rest are =
    let regrouped : flat_map client_encoding (s ∷ ss) ++ rest ≡ client_encoding s ++ (flat_map client_encoding ss ++ rest) = ap (λ (w : List ℕ). w ++ rest)
    (flat_map-cons client_encoding s ss) ∙ append_assoc (client_encoding s) (flat_map client_encoding ss) rest in
    ap (clients_at (suc (length ss)) low) regrouped
    ∙ rw ((next_format low).again s (flat_map client_encoding ss ++ rest) (are.0, are.1), again_clients (suc s.0) ss rest are.2) refl

clients_format : (count low : ℕ) → IsFormat (flat_map client_encoding) (λ ss. (length ss ≡ count) × AreClientsFrom low ss) (clients_at count low)
clients_format count low = record {
  takes = take_clients count low;
  again = λ ss rest f. subst (λ (n : ℕ). clients_at n low (flat_map client_encoding ss ++ rest) ≡ Some (ss, rest)) f.0 (again_clients low ss rest f.1);
}

-- ---- the parts of a snapshot

-- The number of clients is at most `max_clients`.
abbrev IsCount : ℕ → Type 0
IsCount n = IsWord 2 n × (n ≤ max_clients)

count_format : IsFormat (λ n. big_bytes 2 n) IsCount (tested_at (λ n. nat_le n max_clients) (number_at 2))
count_format = such_format (λ n. big_bytes 2 n) (IsWord 2) IsCount (number_at 2) (λ n. nat_le n max_clients)
    (λ n f h. (f, leb-true n max_clients h)) (λ n f. (f.0, le-leb n max_clients f.1)) number_format2

-- The clients ascend, and the number before them is theirs.
abbrev SessionsFit : ℕ × List (ℕ × LastCall) → Type 0
SessionsFit p = IsCount p.0 × ((length p.1 ≡ p.0) × AreClientsFrom 0 p.1)

-- The bytes of a number of clients and the clients.
abbrev pub sessions_encoding : ℕ × List (ℕ × LastCall) → List ℕ
sessions_encoding p = big_bytes 2 p.0 ++ flat_map client_encoding p.1

sessions_format : IsFormat sessions_encoding SessionsFit sessions_at
unfolding sessions_at
sessions_format = then_format (λ n. big_bytes 2 n) IsCount (tested_at (λ n. nat_le n max_clients) (number_at 2))
    (λ n. flat_map client_encoding) (λ n ss. (length ss ≡ n) × AreClientsFrom 0 ss) (λ n. clients_at n 0) count_format (λ n f. clients_format n 0)

-- The number is the length of the text.
abbrev ObjectFits : ℕ × List ℕ → Type 0
ObjectFits p = IsWord 8 p.0 × (length p.1 ≡ p.0)

-- The bytes of a length and a text.
abbrev pub object_encoding : ℕ × List ℕ → List ℕ
object_encoding p = big_bytes 8 p.0 ++ p.1

object_format : IsFormat object_encoding ObjectFits object_at
unfolding object_at
object_format = (dependent_pair_format u64_field text).exact

-- The bytes consist of these clients and this text.
pub record AreSnapshotParts (bytes : List ℕ) (parts : List (ℕ × LastCall) × List ℕ) : Type 0 where
  pub few : length parts.0 ≤ max_clients
  pub clients : AreClientsFrom 0 parts.0
  pub text : AreBytes parts.1
  pub whole : sessions_encoding (length parts.0, parts.0) ++ object_encoding (length parts.1, parts.1) ≡ bytes

-- Bytes consist of the parts that are read from them.
pub parts_exact : (bytes : List ℕ) (parts : List (ℕ × LastCall) × List ℕ) → AreBytes bytes → parts_at bytes ≡ Some parts → AreSnapshotParts bytes parts
unfolding parts_at
parts_exact bytes parts are is =
    let a = bind_some (sessions_at bytes) (λ s. object_at s.1 >>= λ o. if length o.1 == 0 then Some (s.0.1, o.0.1) else None) parts is in
    let b = bind_some (object_at a.0.1) (λ o. if length o.1 == 0 then Some (a.0.0.1, o.0.1) else None) parts a.2 in
    let g = passed_some (length b.0.1 == 0) (a.0.0.1, b.0.0.1) parts b.2 in
    let front = sessions_format.takes bytes a.0 (AreBytes-get_or bytes are) a.1 in
    let back = object_format.takes a.0.1 b.0 front.0.rest_fits b.1 in
    let none : b.0.1 ≡ [] = nil_from_length b.0.1 (eqb-true _ _ g.0) in
    let behind : a.0.1 ≡ object_encoding b.0.0 =
    back.0.parts ∙ ap (λ (w : List ℕ). object_encoding b.0.0 ++ w) none ∙ append-nil (object_encoding b.0.0) in
    let P : List (ℕ × LastCall) × List ℕ → Type 0 = λ x. AreSnapshotParts bytes x in
    subst P g.1 (record {
      few = omega (arith, front.1.0.1, front.1.1.0);
      clients = front.1.1.1;
      text = rest_bytes (big_bytes 8 b.0.0.0) b.0.0.1 a.0.1 behind front.0.rest_fits;
      whole = rw (front.1.1.0, back.1.1) (sym (front.0.parts ∙ ap (λ (w : List ℕ). sessions_encoding a.0.0 ++ w) behind));
    })

-- The parts that a snapshot was made of are read from it.
parts_again : (ss : List (ℕ × LastCall)) (bytes : List ℕ) → length ss ≤ max_clients → AreClientsFrom 0 ss → length bytes < 2 ^ 64
    → parts_at (sessions_encoding (length ss, ss) ++ object_encoding (length bytes, bytes)) ≡ Some (ss, bytes)
unfolding parts_at
parts_again ss bytes few are long =
    let back : List ℕ = object_encoding (length bytes, bytes) in
    let first : sessions_at (sessions_encoding (length ss, ss) ++ back) ≡ Some ((length ss, ss), back) =
    sessions_format.again (length ss, ss) back ((omega (arith, few), few), (refl, are)) in
    let second : object_at back ≡ Some ((length bytes, bytes), []) =
    ap object_at (sym (append-nil back)) ∙ object_format.again (length bytes, bytes) [] (omega (arith, long), refl) in
    rw (first, second) refl

-- ---- the second law of objects

module _ {O : Type 0} (IsContent : O → Type 0) (snapshot_of : O → List ℕ) (restored : List ℕ → Option O) (law : HasExactSnapshots IsContent snapshot_of restored) where
  same : (table : Table O) → HasSnapshot IsContent table → length (table_snapshot snapshot_of table) < 2 ^ 64
      → restored_table restored (table_snapshot snapshot_of table) ≡ Some table
  same table has short =
      let ss = table.sessions in
      let bytes = snapshot_of table.content in
      let front : List ℕ = sessions_encoding (length ss, ss) in
      let back : List ℕ = object_encoding (length bytes, bytes) in
      let parts : table_snapshot snapshot_of table ≡ front ++ back =
      sym (append_assoc (big_bytes 2 (length ss)) (flat_map client_encoding ss) back) in
      let long : length bytes < 2 ^ 64 =
      omega (arith, short, ap length parts, length-append front back, length-append (big_bytes 8 (length bytes)) bytes) in
      let whole : restored bytes ≡ Some table.content = law.same table.content has.content long in
      rw (parts, parts_again ss bytes has.few has.clients long, whole) refl

  only : (bytes : List ℕ) (table : Table O) → AreBytes bytes → restored_table restored bytes ≡ Some table
      → HasSnapshot IsContent table × (table_snapshot snapshot_of table ≡ bytes)
  only bytes table are is =
      let p = bind_some (parts_at bytes) (table_with restored) table is in
      let d = map_some (λ content. table_of p.0.0 content) (restored p.0.1) table p.2 in
      let read = parts_exact bytes p.0 are p.1 in
      let content = law.only p.0.1 d.0 read.text d.1 in
      let P : Table O → Type 0 = λ t. HasSnapshot IsContent t × (table_snapshot snapshot_of t ≡ bytes) in
      subst P d.2 (record { few = read.few; clients = read.clients; content = content.0 }, rw content.1 (sym (append_assoc (big_bytes 2 (length p.0.0)) (flat_map client_encoding p.0.0) (object_encoding (length p.0.1, p.0.1))) ∙ read.whole))

  pub tables_restore : HasExactSnapshots (HasSnapshot IsContent) (table_snapshot snapshot_of) (restored_table restored)
  tables_restore = record { same = same; only = only }
