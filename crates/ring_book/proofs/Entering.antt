-- A step goes from a cell's journal to the book.
use Rattle.std.proofs.Common.{◌≡◌, ℕ, zero, suc, nat_lt, if◌then◌else◌, ◌<◌, ◌≤◌, ◌+◌, ◌-◌, ◌++◌, ◌==◌, List, [], ◌∷◌}
use Rattle.std.proofs.Common.{refl, ap, subst, sym, ◌∙◌, true, false, Bool, inl, inr, Option, None, Some, slice_get}
use Rattle.std.proofs.Common.{length, arith, append-nil, length-append, length-set, append_assoc}
use Rattle.std.specs.Prelude.{slice_set}
use Rattle.std.proofs.lemmas.Bool.Decides.{nat_tests}
use Rattle.rtrb.specs.Ring.{sent, received, known_items, known_free, IsPair, producer_capacity, SameProducer, SameConsumer}
use mathlib.Core.List.{IsPrefix}
use Rattle.ring_session.specs.declared.answer.Answer.{Answer}
use Rattle.ring_book_lines.specs.Answers.{first_answer_in, answer_of_ticket, answers_after_step, answers_after_steps, answers_of_node}
use Rattle.ring_book.specs.Books.{max_places, IsBook, IsReadingEnd, HasNodeAnswers, ReadingEnd}
use Rattle.ring_book.specs.AnswerIndex.{AnswerIndexView, IsRoomier, AreRoomier}
use Rattle.ring_book.specs.Cells.{IsCell, AllOf}
use Rattle.ring_book.specs.JournalEnds.{Name, Ring, ring_of_producer, ring_of_consumer}
use Rattle.ring_book_lines.specs.Lines.{steps_of, IsDeliverable}
use Rattle.ring_book_lines.specs.Machines.{Machine}
use Rattle.ring_book_lines.specs.Logs.{LogView, log_extended, log_after_step}
use Rattle.ring_book.specs.Openings.{Writer}
use Rattle.ring_book_lines.specs.Runs.{LeadsToState, IsInside, IsBookRun, AreDeliverable}
use Rattle.ring_book_lines.specs.Steps.{StepView, LineView}
use Rattle.ring_book.proofs.Journaling.{AllOf-last, ring_stays}
use Rattle.ring_book_lines.proofs.Leading.{steps_of-own, steps_of-other, steps_of-skip}
use Rattle.ring_book_lines.proofs.Logging.{log_of_lines-snoc}
use Rattle.std.specs.List.{AllByRecursion as Each}
use Rattle.ring_base.proofs.Each.{each-get, each-placed, each-push}
use Rattle.ring_base.proofs.ListPlaces.{set_cases, added_cases}
use Rattle.ring_book_lines.proofs.AnswersByTicket.{answers_after_steps-snoc, length-answers_after_step}
use Rattle.ring_base.specs.Numbers.{max_frame_bytes}

pub end_ring : {A : Type 0} (c d : ReadingEnd A) → SameConsumer c d → ring_of_consumer d ≡ ring_of_consumer c
end_ring c d h = cc

pub end_looks : {A : Type 0} (name : Name A) (lines : List (LineView A)) (i : ℕ) (c d : ReadingEnd A) → IsReadingEnd name lines i c
    → SameConsumer c d → received d ≡ received c → IsReadingEnd name lines i d
end_looks name lines i c d e same r = record { ring = rw (end_ring c d same) e.ring; received_steps = r ∙ e.received_steps; one = same.1 ∙ e.one }

-- the reading end of a node has looked at its ring
pub book_looks : {S A : Type 0} (m : Machine S A) (name : Name A) (lines : List (LineView A)) (reserved : ℕ)
    (ends : List (ReadingEnd A)) (answer_indexes : List AnswerIndexView) (log : LogView)
    (capacity places space space' i : ℕ) (c d : ReadingEnd A)
    → IsBook m name lines reserved ends answer_indexes log capacity places space → slice_get ends i ≡ Some c → SameConsumer c d → received d ≡ received c → max_frame_bytes ≤ space'
    → IsBook m name lines reserved (slice_set ends i d) answer_indexes log capacity places space'
book_looks m name lines reserved ends answer_indexes log capacity places space space' i c d b at same r text = record {
  few = b.few;
  count = rw length-set b.count;
  told_count = b.told_count;
  each = λ j x h. elim (set_cases ends i j d x h) [
    | inl w ↦ rw (w.0, w.1) (end_looks name lines i c d (b.each i c at) same r)
    | inr w ↦ b.each j x w.1
  ];
  tells = b.tells;
  run = b.run;
  numbered = b.numbered;
  room = b.room;
  limit = b.limit;
  log_is = b.log_is;
  log_room = b.log_room;
  text = text;
}

-- deliverable lines stay deliverable in a list with one more line
AreDeliverable-snoc : {A : Type 0} (before ls : List (LineView A)) (l : LineView A) → AreDeliverable before ls
    → IsDeliverable (before ++ ls) l.step.node l.step.input → AreDeliverable before (ls ++ l ∷ [])
AreDeliverable-snoc before [] l h f = (rw append-nil at f, tt)
AreDeliverable-snoc before (x ∷ ls) l h f =
    (h.0, AreDeliverable-snoc (before ++ x ∷ []) ls l h.1 (rw append_assoc f))

-- a run with one more line: its node's journal ends with its step
pub run_adds : {S A : Type 0} (m : Machine S A) (n : ℕ) (ls : List (LineView A)) (l : LineView A) (me : ℕ) (t : S)
    → IsBookRun m n ls → l.step.node ≡ me → 1 ≤ me → me ≤ n → LeadsToState m (m.opening me) (steps_of me ls ++ l.step ∷ []) t → IsDeliverable ls l.step.node l.step.input
    → IsBookRun m n (ls ++ l ∷ [])
run_adds {S} {A} m n ls l me t r mine low high leads found = record {
  nodes = λ i h k. same_or_other i h k (l.step.node == i) refl;
  inside = each-push (IsInside n) ls l r.inside (omega arith, omega arith);
  found = AreDeliverable-snoc [] ls l r.found found;
}
  where
    same_or_other : (i : ℕ) → 1 ≤ i → i ≤ n → (b : Bool) → (l.step.node == i) ≡ b → (t : S) × LeadsToState m (m.opening i) (steps_of i (ls ++ l ∷ [])) t
    same_or_other i h k true e =
        let same : me ≡ i = grind (arith, nat_tests) in
        let own : l.step.node ≡ i = mine ∙ same in
        (t, rw (steps_of-own i ls l own) (subst (λ (j : ℕ). LeadsToState m (m.opening j) (steps_of j ls ++ l.step ∷ []) t) same leads))
    same_or_other i h k false e = rw (steps_of-other i ls l e) (r.nodes i h k)

-- the ends of one ring, once the reader has looked beside the writer
pub record Looked {A : Type 0} (p q : Writer A) (c d : ReadingEnd A) : Type 0 where
  pub same_reader : SameConsumer c d
  pub received_is : received d ≡ received c
  pub same_writer : SameProducer p q
  pub sent_is : sent q ≡ sent p
  pub fifo : received d ++ known_items d ≡ sent q

-- the ring is empty: all steps of the journal are in the book
pub all_entered : {A : Type 0} (name : Name A) (lines : List (LineView A)) (i : ℕ) (p q : Writer A) (c d : ReadingEnd A)
    → IsReadingEnd name lines i c → Looked p q c d → length (known_items d) ≡ 0 → sent p ≡ steps_of (suc i) lines
all_entered {A} name lines i p q c d e k none =
    let empty : known_items d ≡ [] = length_0 (known_items d) none in
    sym k.sent_is ∙ (sym k.fifo ∙ (ap (λ xs. received d ++ xs) empty ∙ (append-nil (received d) ∙ (k.received_is ∙ e.received_steps))))
  where
    length_0 : (xs : List (StepView A)) → length xs ≡ 0 → xs ≡ []
    length_0 [] h = refl
    length_0 (x ∷ xs) h = absurd (omega arith)

-- a list of at most one element that begins with x
only : {T : Type 0} (xs : List T) (x : T) → length xs ≤ 1 → IsPrefix (x ∷ []) xs → xs ≡ x ∷ []
only [] x h p = cc
only (y ∷ []) x h p = cc
only (y ∷ (z ∷ xs)) x h p = absurd (omega arith)

-- one step is in the ring, and it is the last of the journal
pub one_left : {A : Type 0} (name : Name A) (lines : List (LineView A)) (i : ℕ) (p q : Writer A) (c d : ReadingEnd A) (x : StepView A)
    → IsReadingEnd name lines i c → Looked p q c d → IsPrefix (x ∷ []) (known_items d) → (known_items d ≡ x ∷ []) × (sent p ≡ steps_of (suc i) lines ++ x ∷ [])
one_left name lines i p q c d x e k pre =
    let most : length (known_items d) ≤ 1 = omega (arith, d.counts, k.same_reader.1, e.one) in
    let is : known_items d ≡ x ∷ [] = only (known_items d) x most pre in
    (is, sym k.sent_is ∙ (sym k.fifo ∙ (ap (λ xs. received d ++ xs) is ∙ ap (λ xs. xs ++ x ∷ []) (k.received_is ∙ e.received_steps))))

-- the end's state, once the step is out
pub record Popped {A : Type 0} (d : ReadingEnd A) (x : StepView A) (f : ReadingEnd A) : Type 0 where
  pub same : SameConsumer d f
  pub received_is : received f ≡ received d ++ x ∷ []

-- the answers of the nodes, with those of one more step
told_enters : {A : Type 0} (lines : List (LineView A)) (reserved i : ℕ) (l : LineView A) (t u : AnswerIndexView) → l.step.node ≡ suc i → HasNodeAnswers lines reserved i t
    → u.answers ≡ answers_after_step t.answers l.step.input l.step.answers → u.room ≡ t.room → 0 < reserved → HasNodeAnswers (lines ++ l ∷ []) (reserved - 1) i u
told_enters lines reserved i l t u mine is answers room some = record {
  told_is = answers ∙ (ap (λ (ts : List (Option Answer)). answers_after_step ts l.step.input l.step.answers) is.told_is
      ∙ sym (ap (answers_after_steps []) (steps_of-own (suc i) lines l mine) ∙ answers_after_steps-snoc [] (steps_of (suc i) lines) l.step));
  room = (let more = length-answers_after_step t.answers l.step.input l.step.answers in let k = ap length answers in omega (arith, more, k, room, is.room, some));
}

logged-length : {A : Type 0} (n : ℕ) (log : LogView) (s : StepView A) → length (log_after_step n log s).segments ≤ length log.segments + 1
logged-length n log s = elim (nat_lt log.total s.committed) as (λ b. length (if b then log_extended n log s else log).segments ≤ length log.segments + 1) [
  | true ↦ omega (arith, length-append log.segments (record { line = n; from = length s.calls - (s.committed - log.total) } ∷ []))
  | false ↦ omega arith
]

pub book_enters : {S A : Type 0} (m : Machine S A) {IsSound : S → Type 0} (name : Name A) (lines : List (LineView A))
    (reserved : ℕ) (ends : List (ReadingEnd A)) (answer_indexes : List AnswerIndexView)
    (log : LogView) (capacity places space space' i me : ℕ) (ahead : Bool) (node : S) (p q : Writer A) (c d f : ReadingEnd A)
    (x : StepView A) (t u : AnswerIndexView) (room : ℕ)
    → suc i ≡ me → IsBook m name lines reserved ends answer_indexes log capacity places space → IsCell m IsSound name me ahead node p room → slice_get ends i ≡ Some c
    → slice_get answer_indexes i ≡ Some t → u.answers ≡ answers_after_step t.answers x.input x.answers → u.room ≡ t.room → max_frame_bytes ≤ space'
    → Looked p q c d → sent p ≡ steps_of me lines ++ x ∷ [] → Popped d x f → IsDeliverable lines x.node x.input → 0 < reserved
    → IsBook m name (lines ++ record { number = length lines; step = x } ∷ []) (reserved - 1) (slice_set ends i f)
    (slice_set answer_indexes i u) (log_after_step (length lines) log x)
    capacity places space'
book_enters {S} {A} m name lines reserved ends answer_indexes log capacity places space space' i me ahead node p q c d f x t u
    room is b k at there answers same text look journal pop found some =
    let l : LineView A = record { number = length lines; step = x } in
    let mine : x.node ≡ me = AllOf-last me (steps_of me lines) x (subst (AllOf me) journal k.mine) in
    let leads : LeadsToState m (m.opening me) (steps_of me lines ++ x ∷ []) node =
    subst (λ (js : List (StepView A)). LeadsToState m (m.opening me) js node) journal k.leads in
    record {
      few = b.few;
      count = rw length-set b.count;
      told_count = length-set answer_indexes i u ∙ b.told_count;
      each = λ j y h. elim (set_cases ends i j f y h) [
        | inl w ↦ rw (w.0, w.1) record {
          ring = rw (end_ring d f pop.same, end_ring c d look.same_reader) (b.each i c at).ring;
          received_steps = pop.received_is ∙ (ap (λ js. js ++ x ∷ []) (look.received_is ∙ (b.each i c at).received_steps) ∙ sym (steps_of-own (suc i) lines l (mine ∙ sym is)));
          one = pop.same.1 ∙ (look.same_reader.1 ∙ (b.each i c at).one);
        }
        | inr w ↦ record {
          ring = (b.each j y w.1).ring;
          received_steps = (b.each j y w.1).received_steps ∙ sym (steps_of-other (suc j) lines l (differs j w.0 mine));
          one = (b.each j y w.1).one;
        }
      ];
      tells = λ j y h. elim (set_cases answer_indexes i j u y h) [
        | inl w ↦ rw (w.0, w.1) (told_enters lines reserved i l t u (mine ∙ sym is) (b.tells i t there) answers same some)
        | inr w ↦ record {
          told_is = (b.tells j y w.1).told_is ∙ sym (ap (answers_after_steps []) (steps_of-other (suc j) lines l (differs j w.0 mine)));
          room = omega (arith, (b.tells j y w.1).room);
        }
      ];
      run = run_adds m name.group.count lines l me node b.run mine k.counted k.in_book leads found;
      numbered = λ j y h. elim (added_cases lines l j y h) [
        | inl w ↦ ap (λ (z : LineView A). z.number) w.1 ∙ sym w.0
        | inr w ↦ b.numbered j y w
      ];
      room = omega (arith, length-append lines (l ∷ []), b.room);
      limit = omega (arith, length-append lines (l ∷ []), b.limit);
      log_is = ap (λ (v : LogView). log_after_step (length lines) v x) b.log_is ∙ sym (log_of_lines-snoc lines l);
      log_room = omega (arith, logged-length (length lines) log x, b.log_room, some);
      text = text;
    }
  where
    differs : (j : ℕ) → (j ≡ i → ⊥) → x.node ≡ me → (x.node == suc j) ≡ false
    differs j apart mine = grind (arith, nat_tests)

pub cell_enters : {S A : Type 0} (m : Machine S A) {IsSound : S → Type 0} (name : Name A) (me : ℕ) (ahead : Bool) (node : S) (p q : Writer A) (space : ℕ)
    → IsCell m IsSound name me ahead node p space → SameProducer p q → sent q ≡ sent p → 0 < known_free q → IsCell m IsSound name me false node q space
cell_enters m name me ahead node p q space k same e free = record {
  counted = k.counted;
  in_book = k.in_book;
  ring = rw (ring_stays p q same) k.ring;
  leads = rw e k.leads;
  mine = rw e k.mine;
  free = λ _. free;
  room = same.1 ∙ k.room;
  sound = k.sound;
  text = k.text;
}

-- the two ends are still those of one ring
pub pair_stays : {A : Type 0} (name : Name A) (i : ℕ) (p q : Writer A) (c d f : ReadingEnd A)
    → slice_get name.rings i ≡ Some (ring_of_producer p) → slice_get name.rings i ≡ Some (ring_of_consumer c)
    → SameProducer p q → SameConsumer c d → SameConsumer d f → IsPair q f
pair_stays name i p q c d f a b h k j =
    let e : ring_of_producer p ≡ ring_of_consumer c = cc in (
      j.0.0 ∙ (k.0.0 ∙ (sym (ap (λ r. r.words) e) ∙ sym h.0.0)),
      j.0.1 ∙ (k.0.1 ∙ (sym (ap (λ r. r.slots) e) ∙ sym h.0.1)),
      j.0.2 ∙ (k.0.2 ∙ (sym (ap (λ r. r.names) e) ∙ sym h.0.2)),
      j.0.3 ∙ (k.0.3 ∙ (sym (ap (λ r. r.heap) e) ∙ sym h.0.3)),
    )

pub popped : {A : Type 0} (d e f : ReadingEnd A) (x : StepView A) → SameConsumer d e → received e ≡ received d ++ x ∷ []
    → SameConsumer e f → received f ≡ received e → Popped d x f
popped d e f x h r i s = record {
  same = ((i.0.0 ∙ h.0.0, i.0.1 ∙ h.0.1, i.0.2 ∙ h.0.2, i.0.3 ∙ h.0.3), i.1 ∙ h.1);
  received_is = s ∙ r;
}

pub writers : {A : Type 0} (p q r : Writer A) → SameProducer p q → SameProducer q r → SameProducer p r
writers p q r h i = ((i.0.0 ∙ h.0.0, i.0.1 ∙ h.0.1, i.0.2 ∙ h.0.2, i.0.3 ∙ h.0.3), i.1 ∙ h.1)

pub first_same : {T : Type 0} (xs : List T) (x y : T) → IsPrefix (x ∷ []) xs → IsPrefix (y ∷ []) xs → x ≡ y
first_same xs x y h i = let a : (x ∷ []) ++ h.0 ≡ xs = h.1 in let b : (y ∷ []) ++ i.0 ≡ xs = i.1 in cc

-- the ring's one slot is free again
pub free_again : {A : Type 0} (p q r : Writer A) (c d f : ReadingEnd A) (x : StepView A) (n : ℕ)
    → Looked p q c d → known_items d ≡ x ∷ [] → Popped d x f → SameProducer q r → sent r ≡ sent q → n ≡ known_free r
    → n + length (sent r) ≡ producer_capacity r + length (received f) → producer_capacity p ≡ 1 → 0 < known_free r
free_again p q r c d f x n look one pop same e value all room =
    let a : sent r ≡ received f = e ∙ (sym look.fifo ∙ (ap (λ xs. received d ++ xs) one ∙ sym pop.received_is)) in
    let b : producer_capacity r ≡ 1 = same.1 ∙ (look.same_writer.1 ∙ room) in
    let k = ap length a in
    omega arith

-- the ring of a processor, by its index
pub ring_at : {A : Type 0} (rings : List (Ring A)) (me i : ℕ) (r : Ring A) → suc i ≡ me → slice_get rings (me - 1) ≡ Some r → slice_get rings i ≡ Some r
ring_at rings me i r is h = let e : i ≡ me - 1 = omega arith in rw e h

-- an equal book, written differently
pub book_same : {S A : Type 0} (m : Machine S A) (name : Name A) (lines lines' : List (LineView A)) (reserved : ℕ) (ends : List (ReadingEnd A)) (answer_indexes : List AnswerIndexView)
    (log log' : LogView) (capacity capacity' places places' space : ℕ)
    → IsBook m name lines reserved ends answer_indexes log capacity places space → lines' ≡ lines → log' ≡ log → capacity' ≡ capacity → places' ≡ places
    → IsBook m name lines' reserved ends answer_indexes log' capacity' places' space
book_same m name lines lines' reserved ends answer_indexes log log' capacity capacity' places places' space b l g c p = rw (l, g, c, p) b

-- a book with more room, for more places
pub book_grows : {S A : Type 0} (m : Machine S A) (name : Name A) (lines lines' : List (LineView A))
    (reserved reserved' : ℕ) (ends : List (ReadingEnd A)) (answer_indexes answer_indexes' : List AnswerIndexView)
    (log log' : LogView) (capacity capacity' places places' space : ℕ)
    → IsBook m name lines reserved ends answer_indexes log capacity places space → lines' ≡ lines → log' ≡ log → length answer_indexes' ≡ length answer_indexes
    → ((i : ℕ) (t : AnswerIndexView) → slice_get answer_indexes' i ≡ Some t → HasNodeAnswers lines reserved' i t) → length lines + reserved' ≤ capacity'
    → length log.segments + reserved' ≤ places' → length lines + reserved' ≤ max_places
    → IsBook m name lines' reserved' ends answer_indexes' log' capacity' places' space
book_grows m name lines lines' reserved reserved' ends answer_indexes answer_indexes' log log' capacity capacity' places places' space b
    same same_log many tells room log_room limit =
    rw (same, same_log) record {
      few = b.few;
      count = b.count;
      told_count = many ∙ b.told_count;
      each = b.each;
      tells = tells;
      run = b.run;
      numbered = b.numbered;
      room = room;
      limit = limit;
      log_is = b.log_is;
      log_room = log_room;
      text = b.text;
    }

-- lists of answers with more room belong to as many nodes
pub roomier-length : (old new : List AnswerIndexView) → AreRoomier old new → length new ≡ length old
roomier-length [] [] h = refl
roomier-length [] (y ∷ ys) h = absurd h
roomier-length (x ∷ xs) [] h = absurd h
roomier-length (x ∷ xs) (y ∷ ys) h = ap suc (roomier-length xs ys h.1)

-- the answers of a node, before and after
pub roomier-at : (old new : List AnswerIndexView) (i : ℕ) (u : AnswerIndexView) → AreRoomier old new → slice_get new i ≡ Some u
    → (t : AnswerIndexView) × ((slice_get old i ≡ Some t) × IsRoomier t u)
roomier-at [] [] i u h e = absurd cc
roomier-at [] (y ∷ ys) i u h e = absurd h
roomier-at (x ∷ xs) [] i u h e = absurd h
roomier-at (x ∷ xs) (y ∷ ys) zero u h e = let same : y ≡ u = cc in (x, (refl, subst (λ (z : AnswerIndexView). IsRoomier x z) same h.0))
roomier-at (x ∷ xs) (y ∷ ys) (suc i) u h e = roomier-at xs ys i u h.1 e

-- the two ends of one ring
pub pair_at : {A : Type 0} (name : Name A) (i : ℕ) (p : Writer A) (c : ReadingEnd A) → slice_get name.rings i ≡ Some
    (ring_of_producer p) → slice_get name.rings i ≡ Some (ring_of_consumer c) → IsPair p c
pair_at name i p c a b =
    let e : ring_of_producer p ≡ ring_of_consumer c = cc in
    (sym (ap (λ r. r.words) e), sym (ap (λ r. r.slots) e), sym (ap (λ r. r.names) e), sym (ap (λ r. r.heap) e))

-- a cell whose journal's writer looked at its ring
pub cell_looks : {S A : Type 0} (m : Machine S A) {IsSound : S → Type 0} (name : Name A) (me : ℕ) (ahead : Bool) (node : S) (p q : Writer A) (space : ℕ)
    → IsCell m IsSound name me ahead node p space → SameProducer p q → sent q ≡ sent p → known_free p ≤ known_free q
    → IsCell m IsSound name me ahead node q space
cell_looks m name me ahead node p q space k same e more = record {
  counted = k.counted;
  in_book = k.in_book;
  ring = rw (ring_stays p q same) k.ring;
  leads = rw e k.leads;
  mine = rw e k.mine;
  free = λ f. (let was = k.free f in omega (arith, was, more));
  room = same.1 ∙ k.room;
  sound = k.sound;
  text = k.text;
}

-- a book whose text buffer was written
pub book_texts : {S A : Type 0} (m : Machine S A) (name : Name A) (lines : List (LineView A)) (reserved : ℕ)
    (ends : List (ReadingEnd A)) (answer_indexes : List AnswerIndexView) (log : LogView)
    (capacity places space space' : ℕ) → IsBook m name lines reserved ends answer_indexes log capacity places space
    → max_frame_bytes ≤ space' → IsBook m name lines reserved ends answer_indexes log capacity places space'
book_texts m name lines reserved ends answer_indexes log capacity places space space' b text = record {
  few = b.few;
  count = b.count;
  told_count = b.told_count;
  each = b.each;
  tells = b.tells;
  run = b.run;
  numbered = b.numbered;
  room = b.room;
  limit = b.limit;
  log_is = b.log_is;
  log_room = b.log_room;
  text = text;
}

-- answers with more room are still those of the lines
pub told_stays : {A : Type 0} (lines : List (LineView A)) (reserved : ℕ) (old new : List AnswerIndexView) → AreRoomier old new
    → ((i : ℕ) (t : AnswerIndexView) → slice_get old i ≡ Some t → HasNodeAnswers lines reserved i t) → (i : ℕ) (u : AnswerIndexView)
    → slice_get new i ≡ Some u → HasNodeAnswers lines reserved i u
told_stays lines reserved old new more tells i u h =
    let r = roomier-at old new i u more h in
    let was = tells i r.0 r.1.0 in
    let k = ap length r.1.1.answers in
    record { told_is = r.1.1.answers ∙ was.told_is; room = omega (arith, was.room, r.1.1.room, k) }

-- and there is room for `more` further tickets
pub told_roomier : {A : Type 0} (lines : List (LineView A)) (reserved more : ℕ) (old new : List AnswerIndexView) → AreRoomier old new
    → ((i : ℕ) (t : AnswerIndexView) → slice_get old i ≡ Some t → HasNodeAnswers lines reserved i t) → Each (λ (t : AnswerIndexView). length t.answers + more ≤ t.room) new
    → (i : ℕ) (u : AnswerIndexView) → slice_get new i ≡ Some u → HasNodeAnswers lines more i u
told_roomier lines reserved more old new roomier tells rooms i u h =
    let was = told_stays lines reserved old new roomier tells i u h in
    record { told_is = was.told_is; room = each-get (λ (t : AnswerIndexView). length t.answers + more ≤ t.room) new i u rooms h }

-- a place that is given back
pub book_releases : {S A : Type 0} (m : Machine S A) (name : Name A) (lines : List (LineView A))
    (reserved reserved' : ℕ) (ends : List (ReadingEnd A)) (answer_indexes : List AnswerIndexView)
    (log : LogView) (capacity places space : ℕ)
    → IsBook m name lines reserved ends answer_indexes log capacity places space → reserved' ≤ reserved
    → IsBook m name lines reserved' ends answer_indexes log capacity places space
book_releases m name lines reserved reserved' ends answer_indexes log capacity places space b less = record {
  few = b.few;
  count = b.count;
  told_count = b.told_count;
  each = b.each;
  tells = λ i t h. record { told_is = (b.tells i t h).told_is; room = omega (arith, (b.tells i t h).room, less) };
  run = b.run;
  numbered = b.numbered;
  room = omega (arith, b.room, less);
  limit = omega (arith, b.limit, less);
  log_is = b.log_is;
  log_room = omega (arith, b.log_room, less);
  text = b.text;
}

-- no step is of a node outside the group
pub none_past : {A : Type 0} (n node : ℕ) (ls : List (LineView A)) → n < node → Each (IsInside n) ls → steps_of node ls ≡ []
none_past n node [] past h = refl
none_past n node (l ∷ ls) past h =
    let b : (l.step.node == node) ≡ false = grind (arith, nat_tests, h.0.1, past) in
    steps_of-skip node ls l b ∙ none_past n node ls past h.1

-- the stored answer of a node's ticket
pub told_answers : {A : Type 0} (lines : List (LineView A)) (reserved i node ticket : ℕ) (t : AnswerIndexView) → HasNodeAnswers lines reserved i t → i ≡ node - 1 → 1 ≤ node
    → answer_of_ticket t.answers ticket ≡ first_answer_in lines node ticket
told_answers lines reserved i node ticket t is at low =
    let same : suc i ≡ node = omega (arith, at, low) in
    ap (λ (answers : List (Option Answer)). answer_of_ticket answers ticket) is.told_is ∙ ap (λ (n : ℕ). answer_of_ticket (answers_of_node n lines) ticket) same

-- a node outside the group has no answer
pub none_answers : {A : Type 0} (n node ticket : ℕ) (ls : List (LineView A)) → n < node → Each (IsInside n) ls → None ≡ first_answer_in ls node ticket
none_answers {A} n node ticket ls past h = sym (ap (λ (ss : List (StepView A)). answer_of_ticket (answers_after_steps [] ss) ticket) (none_past n node ls past h))

-- the stored answers of a node, and those of a node outside the group
pub told_list : {A : Type 0} (lines : List (LineView A)) (reserved i node : ℕ) (t : AnswerIndexView) → HasNodeAnswers lines reserved i t → i ≡ node - 1 → 1 ≤ node
    → t.answers ≡ answers_of_node node lines
told_list lines reserved i node t is at low =
    let same : suc i ≡ node = omega (arith, at, low) in
    is.told_is ∙ ap (λ (n : ℕ). answers_of_node n lines) same

pub none_list : {A : Type 0} (n node : ℕ) (ls : List (LineView A)) → n < node → Each (IsInside n) ls → [] ≡ answers_of_node node ls
none_list {A} n node ls past h = sym (ap (λ (ss : List (StepView A)). answers_after_steps [] ss) (none_past n node ls past h))

-- lists of answers with as much room
pub roomier-refl : (xs : List AnswerIndexView) → AreRoomier xs xs
roomier-refl [] = tt
roomier-refl (x ∷ xs) = (record { answers = refl; room = omega arith }, roomier-refl xs)

-- and with more room at one node
pub roomier-set : (old new : List AnswerIndexView) (i : ℕ) (t u : AnswerIndexView) → AreRoomier old new → slice_get new i ≡ Some t
    → IsRoomier t u → AreRoomier old (slice_set new i u)
roomier-set [] [] i t u h e r = tt
roomier-set [] (y ∷ ys) i t u h e r = absurd h
roomier-set (x ∷ xs) [] i t u h e r = absurd h
roomier-set (x ∷ xs) (y ∷ ys) zero t u h e r =
    let same : t ≡ y = cc in (
      record {
        answers = r.answers ∙ (ap (λ (z : AnswerIndexView). z.answers) same ∙ h.0.answers);
        room = omega (arith, r.room, ap (λ (z : AnswerIndexView). z.room) same, h.0.room);
      },
      h.1,
    )
roomier-set (x ∷ xs) (y ∷ ys) (suc i) t u h e r = (h.0, roomier-set xs ys i t u h.1 e r)

-- each node before this one has room for `more` further tickets
abbrev pub HaveRoom : ℕ → ℕ → List AnswerIndexView → Type 0
HaveRoom more at answer_indexes = (i : ℕ) (t : AnswerIndexView) → i < at → slice_get answer_indexes i ≡ Some t → length t.answers + more ≤ t.room

pub room-set : (answer_indexes : List AnswerIndexView) (more at : ℕ) (u : AnswerIndexView) → HaveRoom more at answer_indexes
    → length u.answers + more ≤ u.room → HaveRoom more (at + 1) (slice_set answer_indexes at u)
room-set answer_indexes more at u h r i t low e = elim (set_cases answer_indexes at i u t e) [
  | inl w ↦ rw w.1 r
  | inr w ↦ h i t (let apart = w.0 in below apart low) w.1
]
  where
    below : (i ≡ at → ⊥) → i < at + 1 → i < at
    below apart low = grind (arith, nat_tests)

pub room-all : (answer_indexes : List AnswerIndexView) (more at : ℕ) → HaveRoom more at answer_indexes → length answer_indexes ≤ at → Each (λ (t : AnswerIndexView). length t.answers + more ≤ t.room) answer_indexes
room-all answer_indexes more at h all = each-placed (λ (t : AnswerIndexView). length t.answers + more ≤ t.room) answer_indexes
    (λ i t e. h i t (let k = get-length answer_indexes i t e in omega (arith, k, all)) e)
  where
    get-length : (xs : List AnswerIndexView) (i : ℕ) (t : AnswerIndexView) → slice_get xs i ≡ Some t → i < length xs
    get-length [] i t e = absurd cc
    get-length (x ∷ xs) zero t e = omega arith
    get-length (x ∷ xs) (suc i) t e = let k = get-length xs i t e in omega (arith, k)
