-- A snapshot split and built, as in the code.
use Rattle.std.proofs.Common.{◌≡◌, ℕ, suc, ◌<◌, ◌≤◌, ◌==◌, nat_le, ltb, Bool, true, false, cond, List, [], ◌∷◌, ◌++◌, append_assoc, length, take}
use Rattle.std.proofs.Common.{drop, All, Option, Some, None, is_some, IsSome, refl, sym, ap, subst, ◌∙◌, arith}
use Rattle.std.specs.Prelude.{Result, Ok, Err, OnOk, OnErr}
use Rattle.std.specs.Map.{values_of}
use Rattle.std.specs.List.{flat_map}
use Rattle.std.specs.Option.{option_map}
use Rattle.std.proofs.lemmas.Bool.{false≢true, le-leb, lt-leb, leb-true}
use Rattle.std.proofs.lemmas.List.Concat.{flat_map-cons}
use Rattle.byteorder.specs.Endian.{big_bytes}
use Rattle.std.proofs.lemmas.List.{take-take, take_at, take_all, length-take}
use Rattle.std.proofs.lemmas.List.Elements.{All-nil, All-cons}
use Rattle.ring_base.specs.declared.fault.Fault.{Fault}
use Rattle.ring_base.specs.declared.fault.Fault.TheVariants.{Memory}
use Rattle.ring_payload.specs.Codecs.{number_at, raw_bytes_at, ◌>>=◌, guard_some, some_injective}
use Rattle.ring_object.specs.Bytes.{AreBytes}
use Rattle.ring_object.specs.Snapshots.{IsSnapshotRefusal}
use Rattle.ring_payload.specs.Operations.{op_at}
use Rattle.ring_session.specs.Deduplicated.{max_clients}
use Rattle.ring_session.specs.Table.{LastCall, Table, IsTable, table_of}
use Rattle.ring_session.specs.Snapshots.{client_encoding, last_call_encoding, max_reply, reply_at, client_at, AreClientsFrom, next_client_at, clients_at, clients_in}
use Rattle.ring_session.specs.Snapshots.{AreSplitParts, sessions_at, object_at, parts_at, table_with, restored_table}
use Rattle.ring_session.specs.SnapshotsLaws.{parts_exact}

-- ---- values read, and values made of them

pub mapped_none : {A B : Type 0} (f : A → B) (read : Option A) (made : Option B) → option_map f read ≡ made → read ≡ None → made ≡ None
mapped_none f read made is none = sym is ∙ ap (option_map f) none

pub mapped_some : {A B : Type 0} (f : A → B) (read : Option A) (made : Option B) (x : A) → option_map f read ≡ made → read ≡ Some x → made ≡ Some (f x)
mapped_some f read made x is some = sym is ∙ ap (option_map f) some

pub mapped_there : {A B : Type 0} (f : A → B) (read : Option A) (made : Option B) → option_map f read ≡ made → IsSome made → IsSome read
mapped_there f (Some x) made is there = refl
mapped_there f None made is there = absurd (false≢true (ap is_some is ∙ there))

pub some_there : {A : Type 0} (read : Option A) → IsSome read → (x : A) × (read ≡ Some x)
some_there (Some x) there = (x, refl)
some_there None there = absurd cc

-- ---- a reply is short

abbrev with_length : ℕ → List ℕ × List ℕ → Option ((ℕ × List ℕ) × List ℕ)
with_length n y = Some ((n, y.0), y.1)

abbrev without_length : (ℕ × List ℕ) × List ℕ → Option (List ℕ × List ℕ)
without_length p = Some (p.0.1, p.1)

abbrev text_behind : (ℕ → List ℕ → Option (List ℕ × List ℕ)) → ℕ × List ℕ → Option ((ℕ × List ℕ) × List ℕ)
text_behind at p = at p.0 p.1 >>= with_length p.0

abbrev passed : Bool → ℕ × List ℕ → Option (ℕ × List ℕ)
passed test p = cond test (Some p) None

reply_told : (read : Option (List ℕ × List ℕ)) (n : ℕ) (x : List ℕ × List ℕ) → ((read >>= with_length n) >>= without_length) ≡ Some x → read ≡ Some x
reply_told (Some y) n x is = is
reply_told None n x is = absurd cc

reply_passed : (test : Bool) (n : ℕ) (bytes : List ℕ) (at : ℕ → List ℕ → Option (List ℕ × List ℕ)) (x : List ℕ × List ℕ)
    → ((passed test (n, bytes) >>= text_behind at) >>= without_length) ≡ Some x → (test ≡ true) × (at n bytes ≡ Some x)
reply_passed true n bytes at x is = (refl, reply_told (at n bytes) n x is)
reply_passed false n bytes at x is = absurd cc

text_length : (n limit : ℕ) (bytes : List ℕ) (x : List ℕ × List ℕ) → raw_bytes_at n bytes ≡ Some x → n ≤ limit → length x.0 ≤ limit
text_length n limit bytes x is le =
    let g = guard_some (ltb (length bytes) n) (take n bytes, drop n bytes) x is in
    let P : List ℕ × List ℕ → Type 0 = λ y. length y.0 ≤ limit in
    subst P g.1 (omega (arith, le, length-take n bytes))

pub reply_short : (bytes : List ℕ) (x : List ℕ × List ℕ) → reply_at bytes ≡ Some x → length x.0 ≤ max_reply
unfolding reply_at
reply_short [] x is = absurd cc
reply_short (n ∷ bytes) x is =
    let p = reply_passed (nat_le n max_reply) n bytes raw_bytes_at x is in
    text_length n max_reply bytes x p.1 (leb-true n max_reply p.0)

-- ---- a client, step by step

pub next-no_client : (low : ℕ) (bytes : List ℕ) → number_at 4 bytes ≡ None → next_client_at low bytes ≡ None
unfolding client_at
next-no_client low bytes client = rw client refl

pub next-no_number : (low : ℕ) (bytes : List ℕ) (client : ℕ) (b : List ℕ) → number_at 4 bytes ≡ Some (client, b) → number_at 8 b ≡ None
    → next_client_at low bytes ≡ None
unfolding client_at
next-no_number low bytes client b is_client number = rw (is_client, number) refl

pub next-zero : (low : ℕ) (bytes : List ℕ) (client : ℕ) (b : List ℕ) (number : ℕ) (c : List ℕ) → number_at 4 bytes ≡ Some (client, b)
    → number_at 8 b ≡ Some (number, c) → number < 1 → next_client_at low bytes ≡ None
unfolding client_at
next-zero low bytes client b number c is_client is_number zero =
    let fails : nat_le 1 number ≡ false = lt-leb 1 number zero in
    rw (is_client, is_number, fails) refl

pub next-no_operation : (low : ℕ) (bytes : List ℕ) (client : ℕ) (b : List ℕ) (number : ℕ) (c : List ℕ) → number_at 4 bytes ≡ Some (client, b)
    → number_at 8 b ≡ Some (number, c) → 1 ≤ number → op_at c ≡ None → next_client_at low bytes ≡ None
unfolding client_at
next-no_operation low bytes client b number c is_client is_number one operation =
    let passes : nat_le 1 number ≡ true = le-leb 1 number one in
    rw (is_client, is_number, passes, operation) refl

pub next-no_reply : (low : ℕ) (bytes : List ℕ) (client : ℕ) (b : List ℕ) (number : ℕ) (c operation d : List ℕ) → number_at 4 bytes ≡ Some (client, b)
    → number_at 8 b ≡ Some (number, c) → 1 ≤ number → op_at c ≡ Some (operation, d) → reply_at d ≡ None → next_client_at low bytes ≡ None
unfolding client_at
next-no_reply low bytes client b number c operation d is_client is_number one is_operation reply =
    let passes : nat_le 1 number ≡ true = le-leb 1 number one in
    rw (is_client, is_number, passes, is_operation, reply) refl

pub next-below : (low : ℕ) (bytes : List ℕ) (client : ℕ) (b : List ℕ) (number : ℕ) (c operation d reply e : List ℕ)
    → number_at 4 bytes ≡ Some (client, b) → number_at 8 b ≡ Some (number, c) → 1 ≤ number → op_at c ≡ Some (operation, d)
    → reply_at d ≡ Some (reply, e) → client < low → next_client_at low bytes ≡ None
unfolding client_at
next-below low bytes client b number c operation d reply e is_client is_number one is_operation is_reply below =
    let passes : nat_le 1 number ≡ true = le-leb 1 number one in
    let fails : nat_le low client ≡ false = lt-leb low client below in
    rw (is_client, is_number, passes, is_operation, is_reply, fails) refl

pub next-there : (low : ℕ) (bytes : List ℕ) (client : ℕ) (b : List ℕ) (number : ℕ) (c operation d reply e : List ℕ)
    → number_at 4 bytes ≡ Some (client, b) → number_at 8 b ≡ Some (number, c) → 1 ≤ number → op_at c ≡ Some (operation, d)
    → reply_at d ≡ Some (reply, e) → low ≤ client
    → next_client_at low bytes ≡ Some ((client, record { number = number; operation = operation; reply = reply }), e)
unfolding client_at
next-there low bytes client b number c operation d reply e is_client is_number one is_operation is_reply above =
    let passes : nat_le 1 number ≡ true = le-leb 1 number one in
    let also : nat_le low client ≡ true = le-leb low client above in
    rw (is_client, is_number, passes, is_operation, is_reply, also) refl

-- ---- the parts, step by step

pub parts-no_count : (bytes : List ℕ) → number_at 2 bytes ≡ None → parts_at bytes ≡ None
unfolding parts_at sessions_at
parts-no_count bytes count = rw count refl

pub parts-many : (bytes : List ℕ) (count : ℕ) (b : List ℕ) → number_at 2 bytes ≡ Some (count, b) → max_clients < count → parts_at bytes ≡ None
unfolding parts_at sessions_at
parts-many bytes count b is_count many =
    let fails : nat_le count max_clients ≡ false = lt-leb count max_clients many in
    rw (is_count, fails) refl

abbrev pub Sessions : Type 0
Sessions = List (ℕ × LastCall)

abbrev pub behind : Option (Sessions × List ℕ) → Option (List ℕ)
behind read = option_map (λ x. x.1) read

behind_none : (read : Option (Sessions × List ℕ)) → behind read ≡ None → read ≡ None
behind_none None is = refl
behind_none (Some x) is = absurd cc

behind_some : (read : Option (Sessions × List ℕ)) (rest : List ℕ) → behind read ≡ Some rest → (ss : Sessions) × (read ≡ Some (ss, rest))
behind_some None rest is = absurd cc
behind_some (Some x) rest is = (x.0, ap (λ (w : List ℕ). Some (x.0, w)) (some_injective x.1 rest is))

pub parts-no_clients : (bytes : List ℕ) (count : ℕ) (b : List ℕ) → number_at 2 bytes ≡ Some (count, b) → count ≤ max_clients
    → behind (clients_at count 0 b) ≡ None → parts_at bytes ≡ None
unfolding parts_at sessions_at
parts-no_clients bytes count b is_count few clients =
    let passes : nat_le count max_clients ≡ true = le-leb count max_clients few in
    let none : clients_at count 0 b ≡ None = behind_none (clients_at count 0 b) clients in
    rw (is_count, passes, none) refl

pub parts-no_length : (bytes : List ℕ) (count : ℕ) (b c : List ℕ) → number_at 2 bytes ≡ Some (count, b) → count ≤ max_clients
    → behind (clients_at count 0 b) ≡ Some c → number_at 8 c ≡ None → parts_at bytes ≡ None
unfolding parts_at sessions_at object_at
parts-no_length bytes count b c is_count few clients none =
    let passes : nat_le count max_clients ≡ true = le-leb count max_clients few in
    let read = behind_some (clients_at count 0 b) c clients in
    let is_clients : clients_at count 0 b ≡ Some (read.0, c) = read.1 in
    rw (is_count, passes, is_clients, none) refl

pub parts-no_object : (bytes : List ℕ) (count : ℕ) (b c : List ℕ) (len : ℕ) (d : List ℕ) → number_at 2 bytes ≡ Some (count, b) → count ≤ max_clients
    → behind (clients_at count 0 b) ≡ Some c → number_at 8 c ≡ Some (len, d) → raw_bytes_at len d ≡ None → parts_at bytes ≡ None
unfolding parts_at sessions_at object_at
parts-no_object bytes count b c len d is_count few clients is_len none =
    let passes : nat_le count max_clients ≡ true = le-leb count max_clients few in
    let read = behind_some (clients_at count 0 b) c clients in
    let is_clients : clients_at count 0 b ≡ Some (read.0, c) = read.1 in
    rw (is_count, passes, is_clients, is_len, none) refl

pub parts-more : (bytes : List ℕ) (count : ℕ) (b c : List ℕ) (len : ℕ) (d object e : List ℕ) → number_at 2 bytes ≡ Some (count, b)
    → count ≤ max_clients → behind (clients_at count 0 b) ≡ Some c → number_at 8 c ≡ Some (len, d) → raw_bytes_at len d ≡ Some (object, e)
    → (length e == 0) ≡ false → parts_at bytes ≡ None
unfolding parts_at sessions_at object_at
parts-more bytes count b c len d object e is_count few clients is_len is_object more =
    let passes : nat_le count max_clients ≡ true = le-leb count max_clients few in
    let read = behind_some (clients_at count 0 b) c clients in
    let is_clients : clients_at count 0 b ≡ Some (read.0, c) = read.1 in
    rw (is_count, passes, is_clients, is_len, is_object, more) refl

pub parts-there : (bytes : List ℕ) (count : ℕ) (b c : List ℕ) (len : ℕ) (d object e : List ℕ) → number_at 2 bytes ≡ Some (count, b)
    → count ≤ max_clients → behind (clients_at count 0 b) ≡ Some c → number_at 8 c ≡ Some (len, d) → raw_bytes_at len d ≡ Some (object, e)
    → (length e == 0) ≡ true → AreSplitParts bytes (Some (count, b, object))
unfolding parts_at sessions_at object_at
parts-there bytes count b c len d object e is_count few clients is_len is_object none =
    let passes : nat_le count max_clients ≡ true = le-leb count max_clients few in
    let read = behind_some (clients_at count 0 b) c clients in
    let is_clients : clients_at count 0 b ≡ Some (read.0, c) = read.1 in
    let there : IsSome (clients_in count b) = rw is_clients refl in
    (few, there, rw (is_count, passes, is_clients, is_len, is_object, none) refl)

-- ---- the table of the parts

numbered : (low : ℕ) (ss : Sessions) → AreClientsFrom low ss → All (λ (last : LastCall). 1 ≤ last.number) (values_of ss)
numbered low [] are = All-nil (λ (last : LastCall). 1 ≤ last.number)
numbered low (s ∷ ss) are = All-cons (λ (last : LastCall). 1 ≤ last.number) s.1 (values_of ss) are.0.number (numbered (suc s.0) ss are.2)

refuses_map : {A B : Type 0} (f : A → B) (read : Option A) (fault : Fault) → IsSnapshotRefusal read fault → IsSnapshotRefusal (option_map f read) fault
refuses_map f (Some x) fault refuses = refuses
refuses_map f None fault refuses = refuses

module _ {O : Type 0} (restored : List ℕ → Option O) (bytes : List ℕ) (count : ℕ) (clients object : List ℕ) (parts : AreSplitParts bytes (Some (count, clients, object))) where
  table_is : (ss : Sessions) → clients_in count clients ≡ Some ss → restored_table restored bytes ≡ option_map (table_of ss) (restored object)
  table_is ss is =
      let whole : parts_at bytes ≡ Some (ss, object) = parts.2 ∙ ap (option_map (λ (w : Sessions). (w, object))) is in
      ap (λ (read : Option (Sessions × List ℕ)). read >>= table_with restored) whole

  -- The parts read from bytes make a table.
  pub table-kept : (ss : Sessions) (content : O) → AreBytes bytes → clients_in count clients ≡ Some ss → IsTable (table_of ss content)
  table-kept ss content are is =
      let whole : parts_at bytes ≡ Some (ss, object) = parts.2 ∙ ap (option_map (λ (w : Sessions). (w, object))) is in
      let told = parts_exact bytes (ss, object) are whole in
      record { few = told.few; numbered = numbered 0 ss told.clients }

  pub table-refused : (fault : Fault) → IsSnapshotRefusal (restored object) fault → IsSnapshotRefusal (restored_table restored bytes) fault
  table-refused fault refuses =
      let t = some_there (clients_in count clients) parts.1 in
      let P : Option (Table O) → Type 0 = λ read. IsSnapshotRefusal read fault in
      subst P (sym (table_is t.0 t.1)) (refuses_map (table_of t.0) (restored object) fault refuses)

  pub table-memory : (content : O) → restored object ≡ Some content → IsSnapshotRefusal (restored_table restored bytes) Memory
  table-memory content is =
      let t = some_there (clients_in count clients) parts.1 in
      let whole : restored_table restored bytes ≡ Some (table_of t.0 content) = table_is t.0 t.1 ∙ ap (option_map (table_of t.0)) is in
      let P : Option (Table O) → Type 0 = λ read. IsSnapshotRefusal read Memory in
      subst P (sym whole) refl

  pub table-there : (ss : Sessions) (content : O) → clients_in count clients ≡ Some ss → restored object ≡ Some content
      → restored_table restored bytes ≡ Some (table_of ss content)
  table-there ss content is is_content = table_is ss is ∙ ap (option_map (table_of ss)) is_content

-- ---- appended bytes

-- A prefix of a prefix.
pub stays-then : (old mid new : List ℕ) (m n : ℕ) → m ≡ length old → n ≡ length mid → take m mid ≡ old → take n new ≡ mid → take m new ≡ old
stays-then old mid new m n is_m is_n first second =
    let shorter : m ≤ n = omega (arith, is_m, is_n, ap length first, length-take m mid) in
    sym (take-take m n new shorter) ∙ ap (take m) second ∙ first

-- A prefix of a list that was appended to.
pub stays-more : (old mid more : List ℕ) (m : ℕ) → m ≡ length old → take m mid ≡ old → take m (mid ++ more) ≡ old
stays-more old mid more m is_m first =
    stays-then old mid (mid ++ more) m (length mid) is_m refl first (take_at mid more (length mid) refl)

-- A prefix of a list made by appending.
pub stays-on : (old mid new more : List ℕ) (m : ℕ) → m ≡ length old → take m mid ≡ old → new ≡ mid ++ more → take m new ≡ old
stays-on old mid new more m is_m first is = ap (take m) is ∙ stays-more old mid more m is_m first

-- A list is a prefix of itself.
pub stays-whole : (old : List ℕ) (m : ℕ) → m ≡ length old → take m old ≡ old
stays-whole old m is_m = take_all m old (omega (arith, is_m))

-- A prefix of a list that was appended to or left unchanged.
pub stays-either : {U : Type 0} (r : Result U Fault) (old mid new more : List ℕ) (m : ℕ) → m ≡ length old → take m mid ≡ old
    → OnOk r (new ≡ mid ++ more) → OnErr r (new ≡ mid) → take m new ≡ old
stays-either (Ok u) old mid new more m is_m first ok err = stays-on old mid new more m is_m first ok
stays-either (Err e) old mid new more m is_m first ok err = ap (take m) err ∙ first

-- One more client is appended, and the rest are still to come.
pub clients-on : (before mid after : List ℕ) (s : ℕ × LastCall) (left rest : List (ℕ × LastCall)) (all : List ℕ) → left ≡ s ∷ rest
    → mid ≡ before ++ big_bytes 4 s.0 → after ≡ mid ++ last_call_encoding s.1
    → before ++ flat_map client_encoding left ≡ all → after ++ flat_map client_encoding rest ≡ all
clients-on before mid after s left rest all is head tail e =
    let others : List ℕ = flat_map client_encoding rest in
    ap (λ w. w ++ others) (tail ∙ ap (λ w. w ++ last_call_encoding s.1) head)
    ∙ ap (λ w. w ++ others) (append_assoc before (big_bytes 4 s.0) (last_call_encoding s.1))
    ∙ append_assoc before (client_encoding s) others
    ∙ ap (λ w. before ++ w) (sym (flat_map-cons client_encoding s rest))
    ∙ ap (λ w. before ++ flat_map client_encoding w) (sym is) ∙ e
