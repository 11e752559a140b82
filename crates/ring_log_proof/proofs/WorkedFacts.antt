-- The facts of the worked lives, processor by processor.
use Rattle.std.proofs.Common.{◌≡◌, ℕ, ◌≤◌, ◌==◌, true, false, List, [], ◌∷◌, ◌++◌, ◌⊎◌, inl, inr, if◌then◌else◌, refl, ap, sym, ◌∙◌, subst, arith}
use Rattle.std.specs.declared.alloc.Global.{Global}
use Rattle.std.specs.List.{AllByRecursion as Each}
use Rattle.std.proofs.lemmas.Bool.{cond_both, cond-false, eqb-true, ne_eqb, cases_eq}
use Rattle.ring_base.specs.Prefixes.{IsListPrefix, prefix_trans}
use Rattle.ring_base.specs.Group.{IsPrimary, is_primary}
use Rattle.ring_base.specs.Primaries.{primary_tested}
use Rattle.ring_base.specs.Processors.{IsMember, elements}
use Rattle.ring_base.specs.Members.{everybody_members}
use Rattle.ring_base.specs.Rings.{same_ring}
use Rattle.ring_base.specs.declared.ring_id.RingId.{RingId}
use Rattle.ring_base.proofs.SameRing.{ring_same}
use Rattle.ring_payload.specs.PayloadKinds.{unpacked_payloads}
use Rattle.ring_payload.specs.declared.content.Payload.TheVariants.{Call}
use Rattle.ring_log.specs.Examples.{group_of_three, message_of}
use Rattle.ring_log.specs.Messages.{Message}
use Rattle.ring_log.specs.Epochs.{Epoch, history_opening_of}
use Rattle.ring_log_proof.specs.RingFacts.{HasEpoch, EpochIn, Rises, payloads_from, safe_part, IsReceivedByAll, RingFacts}
use Rattle.ring_log_proof.specs.Discipline.{OpensWithHead, KeepsDiscipline}
use Rattle.ring_log_proof.specs.Examples.{first_ring, second_ring, call_by, part_at, text, members, first_text, second_exchange, second_text}
use Rattle.ring_log_proof.specs.Examples.{first_head, one_first, one_second, two_first, two_second, three_first, node_epochs, life_of_one}
use Rattle.ring_log_proof.specs.Examples.{life_of_two, life_of_three}
use Rattle.ring_log_proof.proofs.Epochs.{epoch-each}

-- a property of the three lives and of the empty life holds of all
by-processor : (P : ℕ → List (Epoch Global) → Type 0) → P 1 life_of_one → P 2 life_of_two → P 3 life_of_three → ((p : ℕ) → P p []) → (p : ℕ) → P p (node_epochs p)
by-processor P one two other none p =
    cond_both (p == 1) life_of_one (if p == 2 then life_of_two else if p == 3 then life_of_three else []) (P p)
    (λ e. subst (λ q. P q life_of_one) (sym (eqb-true p 1 e)) one)
    (λ f. cond_both (p == 2) life_of_two (if p == 3 then life_of_three else []) (P p)
    (λ e. subst (λ q. P q life_of_two) (sym (eqb-true p 2 e)) two)
    (λ f. cond_both (p == 3) life_of_three [] (P p) (λ e. subst (λ q. P q life_of_three) (sym (eqb-true p 3 e)) other) (λ f. none p)))

-- the same of each epoch of them
each-epoch : (P : ℕ → Epoch Global → Type 0) → Each (P 1) life_of_one → Each (P 2) life_of_two → Each (P 3) life_of_three
    → (p : ℕ) (s : Epoch Global) (older : List (Epoch Global)) → HasEpoch (node_epochs p) s older → P p s
each-epoch P one two other p s older i = epoch-each (P p) (node_epochs p) s older (by-processor (λ q l. Each (P q) l) one two other (λ q. tt) p) i

-- and of the two rings and of no ring
by-ring : (P : RingId → List (Message Global) → Type 0) → P first_ring first_text → P second_ring second_text → ((r : RingId) → P r []) → (r : RingId)
    → P r (text r)
by-ring P first second none r =
    cond_both (same_ring r first_ring) first_text (if same_ring r second_ring then second_text else []) (P r)
    (λ e. subst (λ q. P q first_text) (sym (ring_same r first_ring e)) first)
    (λ f. cond_both (same_ring r second_ring) second_text [] (P r) (λ e. subst (λ q. P q second_text) (sym (ring_same r second_ring e)) second) (λ f. none r))

-- a processor that sent none of these sent nothing
said-nothing : (p : ℕ) (xs : List (Message Global)) → Each (λ (x : Message Global). (x.sender == p) ≡ false) xs → payloads_from p xs ≡ []
said-nothing p [] h = refl
said-nothing p (x ∷ xs) h = ap (λ l. l ++ payloads_from p xs) (cond-false (x.sender == p) (unpacked_payloads x.payload) [] h.0) ∙ said-nothing p xs h.1

-- The epochs

abbrev first-of-one : EpochIn (node_epochs 1) first_ring
first-of-one = record { epoch = one_first; older = history_opening_of 1; there = inr (inl (refl, refl)); ring = refl }

abbrev first-of-two : EpochIn (node_epochs 2) first_ring
first-of-two = record { epoch = two_first; older = history_opening_of 2; there = inr (inl (refl, refl)); ring = refl }

abbrev first-of-three : EpochIn (node_epochs 3) first_ring
first-of-three = record { epoch = three_first; older = history_opening_of 3; there = inl (refl, refl); ring = refl }

abbrev second-of-one : EpochIn (node_epochs 1) second_ring
second-of-one = record { epoch = one_second; older = one_first ∷ history_opening_of 1; there = inl (refl, refl); ring = refl }

abbrev second-of-two : EpochIn (node_epochs 2) second_ring
second-of-two = record { epoch = two_second; older = two_first ∷ history_opening_of 2; there = inl (refl, refl); ring = refl }

-- one of three processors, or another
of-three : (P : ℕ → Type 0) → P 1 → P 2 → P 3 → (p : ℕ) → ((p ≡ 1 → ⊥) → (p ≡ 2 → ⊥) → (p ≡ 3 → ⊥) → P p) → P p
of-three P one two other p none = elim (cases_eq p 1) as (λ _. P p) [
  | inl e ↦ subst P (sym e) one
  | inr f ↦ elim (cases_eq p 2) as (λ _. P p) [
    | inl e ↦ subst P (sym e) two
    | inr g ↦ elim (cases_eq p 3) as (λ _. P p) [
      | inl e ↦ subst P (sym e) other
      | inr h ↦ none f g h
    ]
  ]
]

-- The facts

Told : ℕ → RingId → List (Message Global) → Type 0
Told p r xs = (payloads_from p xs ≡ []) ⊎ ((at : EpochIn (node_epochs p) r) × IsListPrefix (payloads_from p xs) at.epoch.sent)

others-said : (p : ℕ) (r : RingId) → (p ≡ 1 → ⊥) → (p ≡ 2 → ⊥) → (p ≡ 3 → ⊥) → payloads_from p (text r) ≡ []
others-said p r f g h =
    let one = ne_eqb 1 p (λ e. f (sym e)) in
    let two = ne_eqb 2 p (λ e. g (sym e)) in
    let other = ne_eqb 3 p (λ e. h (sym e)) in
    by-ring (λ r xs. payloads_from p xs ≡ []) (said-nothing p first_text (one, (two, (other, (one, tt)))))
    (said-nothing p second_text (one, (two, (one, (two, tt))))) (λ r. refl) r

all-first : (xs : List (Message Global)) → IsListPrefix xs first_text → IsReceivedByAll node_epochs first_ring 7 xs
all-first xs f p m =
    of-three (λ q. (at : EpochIn (node_epochs q) first_ring) × IsListPrefix xs at.epoch.heard) (first-of-one, f) (first-of-two, f) (first-of-three, f) p
    (λ n1 n2 n3. absurd (let b = (everybody_members 3 p).0 m in omega (arith, b.0, b.1, n1, n2, n3)))

all-second : (xs : List (Message Global)) → IsListPrefix xs second_exchange → IsReceivedByAll node_epochs second_ring 3 xs
all-second xs f p m =
    let b = (everybody_members 2 p).0 m in
    elim (cases_eq p 1) as (λ _. (at : EpochIn (node_epochs p) second_ring) × IsListPrefix xs at.epoch.heard) [
      | inl e ↦ subst (λ q. (at : EpochIn (node_epochs q) second_ring) × IsListPrefix xs at.epoch.heard) (sym e)
          (second-of-one, prefix_trans xs second_exchange second_text f (message_of second_ring 6 2 (Call (call_by 9)) ∷ [], refl))
      | inr n ↦ (let e : p ≡ 2 = omega (arith, b.0, b.1, n) in subst (λ q. (at : EpochIn (node_epochs q) second_ring) × IsListPrefix xs at.epoch.heard) (sym e)
          (second-of-two, f))
    ]

pub three-facts : RingFacts node_epochs members text
three-facts = record {
  rises = by-processor (λ p l. Rises l)
      ((omega arith, (omega arith, tt)), ((omega arith, tt), (tt, tt))) ((omega arith, (omega arith, tt)), ((omega arith, tt), (tt, tt)))
      ((omega arith, tt), (tt, tt)) (λ p. tt);
  one_set = each-epoch (λ p s. s.members ≡ members s.ring) (refl, (refl, (refl, tt))) (refl, (refl, (refl, tt))) (refl, (refl, tt));
  own = each-epoch (λ p s. IsMember s.members p)
      ((omega arith, refl), ((omega arith, refl), ((omega arith, refl), tt))) ((omega arith, refl), ((omega arith, refl), ((omega arith, refl), tt)))
      ((omega arith, refl), ((omega arith, refl), tt));
  heard = each-epoch (λ p s. IsListPrefix s.heard (text s.ring))
      (([], refl), (([], refl), (([], refl), tt))) ((message_of second_ring 6 2 (Call (call_by 9)) ∷ [], refl), (([], refl), (([], refl), tt)))
      (([], refl), (([], refl), tt));
  named = by-ring (λ r xs. Each (λ (x : Message Global). x.ring ≡ r) xs) (refl, (refl, (refl, (refl, tt)))) (refl, (refl, (refl, (refl, tt)))) (λ r. tt);
  said = λ p r. of-three (λ q. (payloads_from q (text r) ≡ []) ⊎ ((at : EpochIn (node_epochs q) r) × IsListPrefix (payloads_from q (text r)) at.epoch.sent))
      (by-ring (λ r xs. (payloads_from 1 xs ≡ []) ⊎ ((at : EpochIn (node_epochs 1) r) × IsListPrefix (payloads_from 1 xs) at.epoch.sent)) (inr (first-of-one, ([], refl)))
      (inr (second-of-one, ([], refl))) (λ r. inl refl) r)
      (by-ring (λ r xs. (payloads_from 2 xs ≡ []) ⊎ ((at : EpochIn (node_epochs 2) r) × IsListPrefix (payloads_from 2 xs) at.epoch.sent)) (inr (first-of-two, ([], refl)))
      (inr (second-of-two, ([], refl))) (λ r. inl refl) r)
      (by-ring (λ r xs. (payloads_from 3 xs ≡ []) ⊎ ((at : EpochIn (node_epochs 3) r) × IsListPrefix (payloads_from 3 xs) at.epoch.sent)) (inr (first-of-three, ([], refl)))
      (inl refl) (λ r. inl refl) r)
      p (λ f g h. inl (others-said p r f g h));
  safe = each-epoch (λ p s. (safe_part s ≡ []) ⊎ IsReceivedByAll node_epochs s.ring s.members (safe_part s))
      (inr (all-second second_exchange ([], refl)), (inr (all-first first_text ([], refl)), (inl refl, tt))) (
        inr (all-second (safe_part two_second) (message_of second_ring 5 1 (part_at 0 (call_by 7 ∷ [])) ∷ [], refl)),
        (inr (all-first (safe_part two_first) (message_of first_ring 7 1 (Call (call_by 7)) ∷ [], refl)), (inl refl, tt)),
      ) (
        inr (all-first (safe_part three_first) (
          message_of first_ring 5 2 first_head ∷ message_of first_ring 6 3 first_head ∷ message_of first_ring 7 1
              (Call (call_by 7)) ∷ [],
          refl,
        )),
        (inl refl, tt),
      );
}

-- The discipline

EachOver : (Epoch Global → List (Epoch Global) → Type 0) → List (Epoch Global) → Type 0
EachOver P [] = Unit {0}
EachOver P (s ∷ older) = P s older × EachOver P older

over-each : (P : Epoch Global → List (Epoch Global) → Type 0) (epochs : List (Epoch Global)) → EachOver P epochs → (s : Epoch Global) (older : List (Epoch Global))
    → HasEpoch epochs s older → P s older
unfolding EachOver
over-each P [] h s older i = absurd i
over-each P (t ∷ before) h s older (inl e) = subst (λ u. P u older) e.0 (subst (P t) e.1 h.0)
over-each P (t ∷ before) h s older (inr i) = over-each P before h.1 s older i

majority : (set : ℕ) → is_primary group_of_three set ≡ true → IsPrimary group_of_three set
majority set h = (primary_tested group_of_three set).0 h

pub three-discipline : KeepsDiscipline group_of_three node_epochs
unfolding EachOver elements
three-discipline p =
    let P : Epoch Global → List (Epoch Global) → Type 0 = λ s older. (s.sent ≡ []) ⊎ OpensWithHead group_of_three s older in
    over-each P (node_epochs p) (by-processor (λ q l. EachOver P l) (
      inr (record { primary = majority 3 refl; rest = part_at 0 (call_by 7 ∷ []) ∷ []; opens = refl; follows = ((let none : 0 ≤ 0 = omega arith in none, ([], refl)), tt) }),
      (inr (record { primary = majority 7 refl; rest = Call (call_by 7) ∷ []; opens = refl; follows = (tt, tt) }), (inl refl, tt)),
    ) (
      inr (record { primary = majority 3 refl; rest = Call (call_by 9) ∷ []; opens = refl; follows = (tt, tt) }),
      (inr (record { primary = majority 7 refl; rest = []; opens = refl; follows = tt }), (inl refl, tt)),
    )
    (inr (record { primary = majority 7 refl; rest = []; opens = refl; follows = tt }), (inl refl, tt))
    (λ q. tt) p)
