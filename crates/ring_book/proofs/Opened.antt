-- An opening with one more node is an opening, and it gives a cell for each node and a book without lines.
use Rattle.std.proofs.Common.{◌≡◌, ℕ, zero, suc, ◌+◌, ◌-◌, ◌++◌, ◌≤◌, ◌<◌, List, [], ◌∷◌, refl, ap}
use Rattle.std.proofs.Common.{subst, sym, ◌∙◌, length, arith, drop, Some, slice_get, false}
use Rattle.rtrb.specs.Ring.{received, consumer_capacity, IsPair}
use Rattle.std.specs.List.{AllByRecursion as Each}
use Rattle.ring_base.proofs.Each.{each-get}
use Rattle.ring_book_lines.specs.Logs.{empty_log}
use Rattle.ring_book.specs.Books.{ReadingEnd, IsBook}
use Rattle.ring_book.specs.AnswerIndex.{AnswerIndexView}
use Rattle.ring_book.specs.Cells.{IsCell}
use Rattle.ring_book.specs.JournalEnds.{Name, Ring, ring_of_producer, ring_of_consumer}
use Rattle.ring_book_lines.specs.Machines.{Machine}
use Rattle.ring_book.specs.Openings.{Writer, IsStart, IsStartEnd, AllStart, AllStartEnds, rings_of}
use Rattle.ring_base.specs.Numbers.{max_frame_bytes}

pub AllStart-snoc : {S A : Type 0} (m : Machine S A) (i j : ℕ) (ns : List S) (ps : List (Writer A)) (n : S)
    (p : Writer A) → i + length ns ≡ j → AllStart m i ns ps → IsStart m j n p → AllStart m i (ns ++ n ∷ []) (ps ++ p ∷ [])
AllStart-snoc m i j [] [] n p e h s = let same : j ≡ i = omega arith in (subst (λ (k : ℕ). IsStart m k n p) same s, tt)
AllStart-snoc m i j [] (q ∷ ps) n p e h s = absurd h
AllStart-snoc m i j (k ∷ ns) [] n p e h s = absurd h
AllStart-snoc m i j (k ∷ ns) (q ∷ ps) n p e h s = (h.0, AllStart-snoc m (suc i) j ns ps n p (omega arith) h.1 s)

pub AllStartEnds-snoc : {A : Type 0} (ps : List (Writer A)) (cs : List (ReadingEnd A)) (p : Writer A) (c : ReadingEnd A)
    → AllStartEnds ps cs → IsStartEnd p c → AllStartEnds (ps ++ p ∷ []) (cs ++ c ∷ [])
AllStartEnds-snoc [] [] p c h s = (s, tt)
AllStartEnds-snoc [] (d ∷ cs) p c h s = absurd h
AllStartEnds-snoc (q ∷ ps) [] p c h s = absurd h
AllStartEnds-snoc (q ∷ ps) (d ∷ cs) p c h s = (h.0, AllStartEnds-snoc ps cs p c h.1 s)

pub pair_ring : {A : Type 0} (p : Writer A) (c : ReadingEnd A) → IsPair p c → ring_of_consumer c ≡ ring_of_producer p
pair_ring p c h = cc

-- the next of a list
pub drop_next : {X : Type 0} (i : ℕ) (xs : List X) (y : X) (ys : List X) → drop i xs ≡ y ∷ ys → (slice_get xs i ≡ Some y) × (drop (suc i) xs ≡ ys)
drop_next zero [] y ys h = cc
drop_next zero (x ∷ xs) y ys h = (cc, cc)
drop_next (suc i) [] y ys h = cc
drop_next (suc i) (x ∷ xs) y ys h = drop_next i xs y ys h

pub start_cell : {S A : Type 0} (m : Machine S A) (IsSound : S → Type 0) (name : Name A) (i me : ℕ) (n : S) (p : Writer A) (space : ℕ) (rings : List (Ring A))
    → me - 1 ≡ i → 1 ≤ me → me ≤ name.group.count → drop i name.rings ≡ ring_of_producer p ∷ rings → IsStart m me n p → IsSound n → max_frame_bytes ≤ space
    → IsCell m IsSound name me false n p space
start_cell m IsSound name i me n p space rings is low high d s sound text = record {
  counted = low;
  in_book = high;
  ring = rw is (drop_next i name.rings (ring_of_producer p) rings d).0;
  leads = rw s.sent_is s.node_is;
  mine = rw s.sent_is tt;
  free = λ _. s.free;
  room = s.one;
  sound = sound;
  text = text;
}

-- the ends and the writers by index
ends_at : {A : Type 0} (ps : List (Writer A)) (cs : List (ReadingEnd A)) (i : ℕ) (c : ReadingEnd A) → AllStartEnds ps cs
    → slice_get cs i ≡ Some c → (slice_get (rings_of ps) i ≡ Some (ring_of_consumer c)) × (received c ≡ [])
    × (consumer_capacity c ≡ 1)
ends_at [] [] i c h e = cc
ends_at [] (d ∷ cs) i c h e = absurd h
ends_at (p ∷ ps) [] i c h e = absurd h
ends_at {A} (p ∷ ps) (d ∷ cs) zero c h e =
    let same : d ≡ c = cc in
    subst (λ (x : ReadingEnd A). (Some (ring_of_producer p) ≡ Some (ring_of_consumer x)) × (received x ≡ []) × (consumer_capacity x ≡ 1)) same
    (ap (λ r. Some r) (sym h.0.ring_is), h.0.received_is, h.0.one)
ends_at (p ∷ ps) (d ∷ cs) (suc i) c h e = ends_at ps cs i c h.1 e

ends_length : {A : Type 0} (ps : List (Writer A)) (cs : List (ReadingEnd A)) → AllStartEnds ps cs → length cs ≡ length ps
ends_length [] [] h = refl
ends_length [] (d ∷ cs) h = absurd h
ends_length (p ∷ ps) [] h = absurd h
ends_length (p ∷ ps) (d ∷ cs) h = ap suc (ends_length ps cs h.1)

pub starts_length : {S A : Type 0} (m : Machine S A) (i : ℕ) (ns : List S) (ps : List (Writer A)) → AllStart m i ns ps → length ns ≡ length ps
starts_length m i [] [] h = refl
starts_length m i [] (p ∷ ps) h = absurd h
starts_length m i (n ∷ ns) [] h = absurd h
starts_length m i (n ∷ ns) (p ∷ ps) h = ap suc (starts_length m (suc i) ns ps h.1)

-- answers of nodes that have given no ticket
abbrev pub AreNone : List AnswerIndexView → Type 0
AreNone answer_indexes = Each (λ (t : AnswerIndexView). t.answers ≡ []) answer_indexes

none-at : (answer_indexes : List AnswerIndexView) (i : ℕ) (t : AnswerIndexView) → AreNone answer_indexes → slice_get answer_indexes i ≡ Some t → t.answers ≡ []
none-at answer_indexes i t none h = each-get (λ (x : AnswerIndexView). x.answers ≡ []) answer_indexes i t none h

pub start_book : {S A : Type 0} (m : Machine S A) (name : Name A) (ns : List S) (ps : List (Writer A)) (cs : List (ReadingEnd A)) (answer_indexes : List AnswerIndexView) (room : ℕ)
    → AllStart m 1 ns ps → AllStartEnds ps cs → name.group.count ≤ 16 → name.group.count ≡ length ns
    → name.rings ≡ rings_of ps → length answer_indexes ≡ name.group.count → AreNone answer_indexes
    → max_frame_bytes ≤ room → IsBook m name [] 0 cs answer_indexes empty_log 0 0 room
start_book m name ns ps cs answer_indexes room a b few n r many none text = record {
  few = few;
  count = ends_length ps cs b ∙ (sym (starts_length m 1 ns ps a) ∙ sym n);
  told_count = many;
  each = λ i c h. (let e = ends_at ps cs i c b h in record { ring = rw r e.0; received_steps = e.1; one = e.2 });
  tells = λ i t h. (let e = none-at answer_indexes i t none h in record { told_is = e; room = (let k = ap length e in omega (arith, k)) });
  run = record { nodes = λ i h k. (m.opening i, refl); inside = tt; found = tt };
  numbered = λ i l h. cc;
  room = omega arith;
  limit = omega arith;
  log_is = refl;
  log_room = omega arith;
  text = text;
}

-- Counting along the nodes of an opening

pub below_16 : (i n m : ℕ) → i < n → n ≡ m → m ≤ 16 → i < 16
below_16 i n m low same few = omega (arith, low, same, few)

pub all_counted : (i n k c : ℕ) → i + n ≡ k → c ≡ k → c ≤ i → i ≡ k
all_counted i n k c all same past = omega (arith, all, same, past)

pub some_more : (n m w len : ℕ) → n ≡ w → n ≡ suc m → len ≡ w → 0 < len
some_more n m w len same more is = omega (arith, same, more, is)

pub text_room : (a b : ℕ) → max_frame_bytes ≤ b → max_frame_bytes ≤ a + b
text_room a b h = omega (arith, h)
