-- Virtual synchrony, from one more fact: a processor that holds a user message of a ring within its front has
-- installed the ring.
use Rattle.std.proofs.Common.{◌≡◌, ℕ, ◌+◌, ◌-◌, ◌<◌, ◌≤◌, ◌⊎◌, inl, inr, Bool, true, false, List, [], ◌∷◌}
use Rattle.std.proofs.Common.{◌++◌, map, Some, refl, ap, sym, ◌∙◌, subst, arith, append-nil}
use Rattle.std.specs.Prelude.{filter, filter_map, nat_le}
use Rattle.std.specs.List.{list_any, AllByRecursion as Each}
use Rattle.std.proofs.lemmas.Bool.{cond_both, cond-true, cond-false, cases_lt, cases_Bool, and_parts, false≢true, leb-true}
use Rattle.ring_base.specs.Numbers.{numbers_from}
use Rattle.ring_base.specs.Processors.{IsMember, elements}
use Rattle.ring_base.specs.Elements.{elements_members}
use Rattle.ring_base.specs.Rings.{same_ring}
use Rattle.ring_base.specs.declared.ring_id.RingId.{RingId}
use Rattle.ring_base.proofs.Each.{each-weaker, each-append, each-filter, each-filter_map}
use Rattle.ring_payload.specs.PayloadKinds.{is_user}
use Rattle.ring_wire.specs.declared.message.Message.{Message}
use Rattle.ring_core_spec.specs.Windows.{found, holds, of_ring}
use Rattle.ring_core_spec.proofs.Windows.{front_is, holds-found}
use Rattle.ring_base.proofs.SameRing.{ring_same, same-self}
use Rattle.ring_core_spec.specs.Commits.{Configuration}
use Rattle.ring_core_spec.specs.Recoveries.{Plan, safe, gap, transitional_part, past_gap_part, rest_messages}
use Rattle.ring_core_spec.specs.State.{Core}
use Rattle.ring_core_spec.specs.Views.{front, mark}
use Rattle.ring_core_spec.specs.Giving.{user_messages_between}
use Rattle.ring_core_proof.specs.FactWords.{IsIn}
use Rattle.ring_core_proof.specs.LawConditions.{IsFalling}
use Rattle.ring_core_proof.specs.declared.event.RingEvent.{RingEvent}
use Rattle.ring_core_proof.specs.Worlds.{World, run, unformed}
use Rattle.ring_core_proof.specs.Texts.{held_by, text_of}
use Rattle.ring_core_proof.specs.Lives.{Stage, InRegular, InTransitional, delivered_in}
use Rattle.ring_core_proof.proofs.InLists.{in-each, each-in, in-left, in-right, in-filter, in-filtered, in-contains, in-numbers}
use Rattle.ring_core_proof.proofs.WithinWindow.{mark_below}
use Rattle.ring_core_proof.proofs.Rises.{all_below}
use Rattle.ring_core_proof.proofs.OwnMessages.{holds_in}
use Rattle.ring_chain_proof.proofs.Rings.{one_members}
use Rattle.ring_chain_proof.proofs.Safety.{mark_safe}
use Rattle.ring_chain_proof.proofs.ChainInRuns.{unformed_text}
use Rattle.ring_synchrony_proof.specs.Changes.{IsNode, stages_in, agreed_at, agreed_of, deliveries_of, users_upto, regulars_of, Change, changes_in}
use Rattle.ring_synchrony_proof.specs.Changes.{delivered_by}
use Rattle.ring_synchrony_proof.specs.Synchrony.{IsBefore, Ascend, HasSameText, DeliversSafely, IsVirtuallySynchronous}
use Rattle.ring_synchrony_proof.proofs.Quantified.{in_decides, numbers_in}
use Rattle.ring_synchrony_proof.proofs.EqualityTests.{ring_decides}
use Rattle.ring_synchrony_proof.specs.LifeOfCore.{regular_stage, plan_into, between}
use Rattle.ring_synchrony_proof.proofs.LifeAfterStep.{heard, found_alike}
use Rattle.ring_synchrony_proof.specs.Installed.{HoldersHaveInstalled}
use Rattle.ring_synchrony_proof.proofs.Planned.{HaveChanged}
use Rattle.ring_synchrony_proof.proofs.Recovering.{Recovered}
use Rattle.ring_synchrony_proof.proofs.UserMessages.{found_as, gap_unknown}
use Rattle.ring_synchrony_proof.proofs.Ascending.{heard_ascends, rest_ascends, rest_above, append_ascends}
use Rattle.ring_synchrony_proof.proofs.ThreeFacts.{r as recovered, stages_tale, same_held, one_configuration, regular_is}
use Rattle.ring_synchrony_proof.proofs.ThreeFacts.{delivered_at, positive, stages_are, went_through, among, change_is, regulars_are}
use Rattle.ring_synchrony_proof.proofs.ThreeFacts.{deliver_alike, deliver_own, have_configurations}

-- Stages of a core's life

regular_in : {A : Type 0} → (c : Core A) (next : Configuration) (older : List Configuration) (at : Configuration) (agreed : List (Message A)) (safe : ℕ) →
    IsIn (InRegular at agreed safe) (stages_tale c next older) → IsIn at (next ∷ older) × (InRegular at agreed safe ≡ regular_stage c at)
regular_in c next older at agreed safe (inl e) = (let same : at ≡ next = cc in (inl same, e ∙ ap (regular_stage c) (sym same)))
regular_in c next [] at agreed safe (inr i) = absurd i
regular_in c next (old ∷ older) at agreed safe (inr (inl e)) = absurd (let n : ⊥ = cc in n)
regular_in c next (old ∷ older) at agreed safe (inr (inr i)) = (let r = regular_in c old older at agreed safe i in (inr r.0, r.1))

record IsWay {A : Type 0} (c : Core A) (s : Stage A) : Type 0 where
  pub next : Configuration
  pub left : Configuration
  pub is : s ≡ between c next left

way_in : {A : Type 0} → (c : Core A) (next : Configuration) (older : List Configuration) (old new : RingId) (members : ℕ) (rest : List (Message A)) →
    IsIn (InTransitional old new members rest) (stages_tale c next older) → IsWay c (InTransitional old new members rest)
way_in c next older old new members rest (inl e) = absurd (let n : ⊥ = cc in n)
way_in c next [] old new members rest (inr i) = absurd i
way_in c next (o ∷ older) old new members rest (inr (inl e)) = record { next = next; left = o; is = e }
way_in c next (o ∷ older) old new members rest (inr (inr i)) = way_in c o older old new members rest i

-- The agreed messages of a ring

module _ {A : Type 0} (c : Core A) where
  abbrev told : Configuration → List (Message A)
  told at = user_messages_between c at.ring 0 (front c at.ring)

  not_at : (ring : RingId) (at : Configuration) → (at.ring ≡ ring → ⊥) → agreed_at ring (regular_stage c at) ≡ []
  not_at ring at f = cond_both (same_ring at.ring ring) (told at) [] (λ (xs : List (Message A)). xs ≡ [])
      (λ e. absurd (f (ring_same at.ring ring e))) (λ e. refl)

  is_at : (at : Configuration) → agreed_at at.ring (regular_stage c at) ≡ told at
  is_at at = cond-true (same_ring at.ring at.ring) (told at) [] (same-self at.ring)

  none_of : (ring : RingId) (next : Configuration) (older : List Configuration) → ((x : Configuration) → IsIn x (next ∷ older) → x.ring ≡ ring → ⊥) →
      agreed_of ring (stages_tale c next older) ≡ []
  none_of ring next [] f = not_at ring next (f next (inl refl))
  none_of ring next (old ∷ older) f =
      ap (λ (xs : List (Message A)). (xs ++ []) ++ agreed_at ring (regular_stage c next))
      (none_of ring old older (λ x i. f x (inr i))) ∙ not_at ring next (f next (inl refl))

  newest_of : (next : Configuration) (older : List Configuration) → IsFalling (next ∷ older) → agreed_of next.ring (stages_tale c next older) ≡ told next
  newest_of next [] f = is_at next
  newest_of next (old ∷ older) f =
      let none : agreed_of next.ring (stages_tale c old older) ≡ [] =
      none_of next.ring old older (λ x i e. (let l : x.ring.seq < next.ring.seq = all_below next
      (old ∷ older) f x i in let q : x.ring.seq ≡ next.ring.seq = ap (λ (r : RingId). r.seq) e in omega (
        arith,
        l,
        q,
      ))) in
      ap (λ (xs : List (Message A)). (xs ++ []) ++ agreed_at next.ring (regular_stage c next)) none ∙ is_at next

  agreed_is : (at next : Configuration) (older : List Configuration) → IsFalling (next ∷ older)
      → IsIn at (next ∷ older) → agreed_of at.ring (stages_tale c next older) ≡ told at
  agreed_is at next older f (inl e) = subst (λ (x : Configuration). agreed_of x.ring (stages_tale c next older) ≡ told x) (sym e) (newest_of next older f)
  agreed_is at next [] f (inr i) = absurd i
  agreed_is at next (old ∷ older) f (inr i) =
      let l : at.ring.seq < next.ring.seq = all_below next (old ∷ older) f at i in
      let none : agreed_at at.ring (regular_stage c next) ≡ [] = not_at at.ring next
      (λ e. (let q : next.ring.seq ≡ at.ring.seq = ap (λ (r : RingId). r.seq) e in omega (arith, l, q))) in
      let all = agreed_of at.ring (stages_tale c old older) in
      ap (λ (xs : List (Message A)). (all ++ []) ++ xs) none ∙ append-nil (all ++ []) ∙ append-nil all ∙ agreed_is at old older f.1 i

-- Deliveries ascend

abbrev IsUnder : {A : Type 0} → Core A → Configuration → Message A → Type 0
IsUnder c next x = (x.ring.seq < next.ring.seq) ⊎ ((x.ring ≡ next.ring) × (x.number ≤ mark c next.ring))

module _ {A : Type 0} (w : World A) (r : Recovered w.cores w.frames) (i : ℕ) where
  abbrev c : Core A
  c = w.cores i

  regular_held : (next : Configuration) → Each (λ (x : Message A). IsIn x c.held × (x.ring ≡ next.ring)
      × (x.number ≤ mark c next.ring)) (delivered_in (regular_stage c next))
  regular_held next =
      let m = mark c next.ring in
      let Q : Message A → Type 0 = λ x. IsIn x c.held × (x.ring ≡ next.ring) × (x.number ≤ m) in
      subst (Each Q) (sym (regular_is w r i next))
      (each-filter Q (λ (x : Message A). is_user x.payload) (filter_map (found c.held next.ring) (numbers_from 1 m))
      (each-filter_map (λ n. n < 1 + m) Q (found c.held next.ring)
      (λ n x l e. (let f = found_as c.held next.ring n x e in let q = f.number_is in (f.there, f.ring_is, omega (arith, l, q)))) (numbers_from 1 m)
      (each-in (λ n. n < 1 + m) (numbers_from 1 m) (λ n j. (numbers_in n 1 m j).1))))

  regular_under : (next : Configuration) → Each (λ (x : Message A). (x.ring ≡ next.ring) × (x.number ≤ mark c next.ring)) (delivered_in (regular_stage c next))
  regular_under next =
      each-weaker (λ (x : Message A). IsIn x c.held × (x.ring ≡ next.ring) × (x.number ≤ mark c next.ring))
      (λ (x : Message A). (x.ring ≡ next.ring) × (x.number ≤ mark c next.ring)) (λ x q. (q.1, q.2))
      (delivered_in (regular_stage c next)) (regular_held next)

  regular_ascends : (next : Configuration) → Ascend (delivered_in (regular_stage c next))
  regular_ascends next = subst Ascend (sym (regular_is w r i next)) (heard_ascends c.held next.ring 1 (mark c next.ring))

  all_ascend : (next : Configuration) (older : List Configuration) → IsFalling (next ∷ older) → HaveChanged c next older →
      Ascend (deliveries_of (stages_tale c next older)) × Each (λ (x : Message A). IsUnder c next x) (deliveries_of (stages_tale c next older))
  all_ascend next [] f h = (
    regular_ascends next,
    each-weaker _ (λ (x : Message A). IsUnder c next x) (λ x u. inr u)
        (delivered_in (regular_stage c next)) (regular_under next),
  )
  all_ascend next (old ∷ older) f h =
      let before = all_ascend old older f.1 h.1 in
      let p = plan_into c next old in
      let rest = rest_messages p c.held in
      let above : Each (λ (x : Message A). (x.ring ≡ old.ring) × (safe p < x.number)) rest = rest_above p c.held in
      let marked : mark c old.ring ≡ safe p = ((h.0).plan).marked in
      let xs = deliveries_of (stages_tale c old older) in
      let first : Each (λ (x : Message A). Each (IsBefore x) rest) xs =
      each-weaker (λ (x : Message A). IsUnder c old x) (λ (x : Message A). Each (IsBefore x) rest)
      (λ x u. each-weaker (λ (y : Message A). (y.ring ≡ old.ring) × (safe p < y.number)) (IsBefore x)
      (λ y v e. under_rest x y u v marked e) rest above) xs before.1 in
      let left = append_ascends xs rest before.0 (rest_ascends p c.held) first in
      let low : Each (λ (x : Message A). x.ring.seq < next.ring.seq) (xs ++ rest) =
      each-append (λ (x : Message A). x.ring.seq < next.ring.seq) xs rest
      (each-weaker (λ (x : Message A). IsUnder c old x) (λ (x : Message A). x.ring.seq < next.ring.seq) (λ x u. under_next x u f.0) xs before.1)
      (each-weaker (λ (y : Message A). (y.ring ≡ old.ring) × (safe p < y.number))
      (λ (x : Message A). x.ring.seq < next.ring.seq)
      (λ y v. (let q : y.ring.seq ≡ old.ring.seq = ap (λ (r : RingId). r.seq) v.0 in let l = f.0 in omega (
        arith,
        q,
        l,
      ))) rest above) in
      let regular = delivered_in (regular_stage c next) in
      let second : Each (λ (x : Message A). Each (IsBefore x) regular) (xs ++ rest) =
      each-weaker (λ (x : Message A). x.ring.seq < next.ring.seq) (λ (x : Message A). Each (IsBefore x) regular)
      (λ x l. each-weaker (λ (y : Message A). (y.ring ≡ next.ring) × (y.number ≤ mark c next.ring)) (IsBefore x)
      (λ y v e. (let q : x.ring.seq ≡ next.ring.seq = ap (λ (r : RingId). r.seq) (e ∙ v.0) in absurd
      (omega (arith, q, l)))) regular (regular_under next)) (xs ++ rest) low in (
        append_ascends (xs ++ rest) regular left (regular_ascends next) second,
        each-append (λ (x : Message A). IsUnder c next x) (xs ++ rest) regular
            (each-weaker (λ (x : Message A). x.ring.seq < next.ring.seq) (λ (x : Message A). IsUnder c next x)
            (λ x l. inl l) (xs ++ rest) low) (each-weaker _ (λ (x : Message A). IsUnder c next x) (λ x u. inr u) regular
            (regular_under next)),
      )
    where
      under_rest : (x y : Message A) → IsUnder c old x → (y.ring ≡ old.ring)
          × (safe (plan_into c next old) < y.number) → mark c old.ring ≡ safe (plan_into c next old) → x.ring ≡ y.ring
          → x.number < y.number
      under_rest x y (inl l) v m e = absurd (let q : x.ring.seq ≡ old.ring.seq = ap (λ (r : RingId). r.seq) (e ∙ v.0) in omega (arith, q, l))
      under_rest x y (inr u) v m e = (let a = u.1 in let b = v.1 in omega (arith, a, b, m))

      under_next : (x : Message A) → IsUnder c old x → old.ring.seq < next.ring.seq → x.ring.seq < next.ring.seq
      under_next x (inl l) k = omega (arith, l, k)
      under_next x (inr u) k = (let q : x.ring.seq ≡ old.ring.seq = ap (λ (r : RingId). r.seq) u.0 in omega (arith, q, k))

-- A held message is in the text

text_has : {A : Type 0} → (cores : ℕ → Core A) (is : List ℕ) (i : ℕ) (x : Message A) → IsIn i is → IsIn x (cores i).held → IsIn x (held_by cores x.ring is)
text_has cores [] i x h k = absurd h
text_has {A} cores (j ∷ is) i x (inl e) k =
    in-left x (of_ring x.ring (cores j).held) (held_by cores x.ring is)
    (in-filter (λ (y : Message A). same_ring y.ring x.ring) x (cores j).held
    (subst (λ q. IsIn x (cores q).held) e k) (same-self x.ring))
text_has {A} cores (j ∷ is) i x (inr h) k = in-right x (of_ring x.ring (cores j).held) (held_by cores x.ring is) (text_has cores is i x h k)

none_user : {A : Type 0} → (xs : List (Message A)) → Each (λ (x : Message A). is_user x.payload ≡ false) xs
    → filter (λ (x : Message A). is_user x.payload) xs ≡ []
none_user [] h = refl
none_user {A} (x ∷ xs) h = cond-false (is_user x.payload) (x ∷ filter (λ (x : Message A). is_user x.payload) xs)
    (filter (λ (x : Message A). is_user x.payload) xs) h.0 ∙ none_user xs h.1

-- The two facts that remain

node_in : {A : Type 0} → (w : World A) (i : ℕ) → IsNode w i → IsIn i (numbers_from 1 w.total)
node_in w i k =
    let p = and_parts (nat_le 1 i) (nat_le i w.total) k in
    let a = leb-true 1 i p.0 in
    let b = leb-true i w.total p.1 in
    in-numbers 1 w.total i a (omega (arith, b))

in_map : {X Y : Type 0} (f : X → Y) (y : Y) (xs : List X) → IsIn y (map f xs) → (x : X) × IsIn x xs × (f x ≡ y)
in_map f y [] h = absurd h
in_map f y (x ∷ xs) (inl e) = (x, inl refl, sym e)
in_map f y (x ∷ xs) (inr h) = (let r = in_map f y xs h in (r.0, inr r.1, r.2))

map_has : {X Y : Type 0} (f : X → Y) (x : X) (xs : List X) → IsIn x xs → IsIn (f x) (map f xs)
map_has f x [] h = absurd h
map_has f x (z ∷ xs) (inl e) = inl (ap f e)
map_has f x (z ∷ xs) (inr h) = inr (map_has f x xs h)

-- the messages of the rest are held, and of its ring
rests_held : {A : Type 0} → (p : Plan) (held : List (Message A)) → Each (λ (x : Message A). IsIn x held × (x.ring ≡ p.old)) (rest_messages p held)
rests_held {A} p held =
    let ns = transitional_part p ++ past_gap_part p held in
    each-filter (λ (x : Message A). IsIn x held × (x.ring ≡ p.old)) (λ (x : Message A). is_user x.payload) (filter_map (found held p.old) ns)
    (each-filter_map (λ (n : ℕ). Unit {0}) (λ (x : Message A). IsIn x held × (x.ring ≡ p.old)) (found held p.old)
    (λ n x l e. (let f = found_as held p.old n x e in (f.there, f.ring_is))) ns (each-in (λ (n : ℕ). Unit {0}) ns (λ n i. tt)))

module _ {A : Type 0} (n : ℕ) (events : List (RingEvent A)) (heard_in : HoldersHaveInstalled (run (unformed {A = A} n) events)) where
  abbrev w : World A
  w = run (unformed n) events

  abbrev older : (i : ℕ) → List Configuration
  older i = ((((recovered n events).local i)).ordered).older

  falls : (i : ℕ) → IsFalling ((w.cores i).installed ∷ ((((recovered n events).local i)).ordered).older)
  falls i = ((((recovered n events).local i)).ordered).falls

  in_text : (i : ℕ) → IsNode w i → (x : Message A) → IsIn x (w.cores i).held → IsIn x (text_of w x.ring)
  in_text i k x h = text_has w.cores (numbers_from 1 w.total) i x (node_in w i k) h

  -- a message that one processor holds is found in the text
  found_text : (i : ℕ) → IsNode w i → (ring : RingId) (m : ℕ) → holds (w.cores i).held ring m ≡ true
      → found (w.cores i).held ring m ≡ found (text_of w ring) ring m
  found_text i k ring m h =
      let x = holds-found (w.cores i).held ring m h in
      let f = found_as (w.cores i).held ring m x.0 x.1 in
      let there : IsIn x.0 (text_of w ring) = subst (λ r. IsIn x.0 (text_of w r)) f.ring_is (in_text i k x.0 f.there) in
      let held : holds (text_of w ring) ring m ≡ true =
      subst (λ j. holds (text_of w ring) ring j ≡ true) f.number_is
      (subst (λ r. holds (text_of w ring) r (x.0).number ≡ true) f.ring_is (holds_in (text_of w ring) x.0 there)) in
      let y = holds-found (text_of w ring) ring m held in
      let g = found_as (text_of w ring) ring m y.0 y.1 in
      let same : x.0 ≡ y.0 = unformed_text n events ring x.0 y.0 (in-contains (text_of w ring) x.0 there)
      (in-contains (text_of w ring) y.0 g.there) (f.number_is ∙ sym g.number_is) in
      x.1 ∙ ap Some same ∙ sym y.1

  told_is : (i : ℕ) → IsNode w i → (ring : RingId) → user_messages_between (w.cores i) ring 0 (front (w.cores i) ring) ≡ users_upto
      (text_of w ring) ring (front (w.cores i) ring)
  told_is i k ring =
      let c = w.cores i in
      let f = front c ring in
      let same : f - 0 ≡ f = omega arith in
      ap (heard (found c.held ring) 1) same
      ∙ ap (filter (λ (x : Message A). is_user x.payload))
      (found_alike (found c.held ring) (found (text_of w ring) ring) 1 f
      (λ m a b. found_text i k ring m ((front_is c.held ring).below m a (omega (arith, b)))))

  nothing_told : (i : ℕ) (ring : RingId) → ((x : Configuration) → IsIn x (w.cores i).installs → x.ring ≡ ring → ⊥)
      → users_upto (text_of w ring) ring (front (w.cores i) ring) ≡ []
  nothing_told i ring none =
      let f = front (w.cores i) ring in
      none_user (filter_map (found (text_of w ring) ring) (numbers_from 1 f))
      (each-filter_map (λ m. m < 1 + f) (λ (x : Message A). is_user x.payload ≡ false) (found (text_of w ring) ring)
      (λ m x l e. elim (cases_Bool (is_user x.payload)) [
        | inl u ↦ (let g = found_as (text_of w ring) ring m x e in let q = g.number_is in let at = heard_in i ring x
            g.there u (omega (arith, q, l)) in absurd (none at.0 at.1 at.2))
        | inr u ↦ u
      ])
      (numbers_from 1 f) (each-in (λ m. m < 1 + f) (numbers_from 1 f) (λ m j. (numbers_in m 1 f j).1)))

  agreed : (i : ℕ) → IsNode w i → (ring : RingId) → agreed_of ring (stages_in w i) ≡ users_upto (text_of w ring) ring (front (w.cores i) ring)
  agreed i k ring =
      let c = w.cores i in
      let names = map (λ (at : Configuration). at.ring) (c.installed ∷ older i) in
      by_test (list_any (same_ring ring) names) refl
    where
      by_test : (b : Bool) → list_any (same_ring ring) (map (λ (at : Configuration). at.ring) ((w.cores i).installed ∷ older i)) ≡ b →
          agreed_of ring (stages_in w i) ≡ users_upto (text_of w ring) ring (front (w.cores i) ring)
      by_test true e =
          let m = in_map (λ (at : Configuration). at.ring) ring ((w.cores i).installed ∷ older i)
          ((in_decides same_ring ring_decides ring
          (map (λ (at : Configuration). at.ring) ((w.cores i).installed ∷ older i))).0 e) in
          let one : agreed_of (m.0).ring (stages_in w i) ≡ users_upto (text_of w (m.0).ring) (m.0).ring (front (w.cores i) (m.0).ring) =
          ap (agreed_of (m.0).ring) (stages_are n events i) ∙ agreed_is (w.cores i) m.0 (w.cores i).installed
          (older i) (falls i) m.1 ∙ told_is i k (m.0).ring in
          subst (λ (r : RingId). agreed_of r (stages_in w i) ≡ users_upto (text_of w r) r (front (w.cores i) r)) m.2 one
      by_test false e =
          let none : (x : Configuration) → IsIn x ((w.cores i).installed ∷ older i) → x.ring ≡ ring → ⊥ =
          λ x j q. false≢true (sym e ∙ (in_decides same_ring ring_decides ring
          (map (λ (at : Configuration). at.ring) ((w.cores i).installed ∷ older i))).1
          (subst (λ (r : RingId). IsIn r (map (λ (at : Configuration). at.ring) ((w.cores i).installed ∷ older i)))
          q (map_has (λ (at : Configuration). at.ring) x ((w.cores i).installed ∷ older i) j))) in
          ap (agreed_of ring) (stages_are n events i) ∙ none_of (w.cores i) ring (w.cores i).installed (older i) none
          ∙ sym (nothing_told i ring (λ x j q. none x (subst (λ xs. IsIn x xs) ((((recovered n events).local i)).ordered).newest j) q))

  rest_in : (i : ℕ) → IsNode w i → (old new : RingId) (members : ℕ) (rest : List (Message A)) → IsIn (InTransitional old new members rest) (stages_in w i) →
      (x : Message A) → IsIn x rest → IsIn x (text_of w old) × (is_user x.payload ≡ true)
  rest_in i k old new members rest s x j =
      let c = w.cores i in
      let way = way_in c c.installed (older i) old new members rest
      (subst (λ (xs : List (Stage A)). IsIn (InTransitional old new members rest) xs) (stages_are n events i) s) in
      let p = plan_into c way.next way.left in
      let e = way.is in
      let there : rest ≡ rest_messages p c.held = cc in
      let ring : old ≡ (way.left).ring = cc in
      let here : IsIn x (rest_messages p c.held) = subst (λ (xs : List (Message A)). IsIn x xs) there j in
      let held = in-each (λ (x : Message A). IsIn x c.held × (x.ring ≡ p.old)) x (rest_messages p c.held) (rests_held p c.held) here in (
        subst (λ r. IsIn x (text_of w r)) (held.1 ∙ sym ring) (in_text i k x held.0),
        (in-filtered (λ (x : Message A). is_user x.payload) x
            (filter_map (found c.held p.old) (transitional_part p ++ past_gap_part p c.held)) here).1,
      )

  pub same_text : HasSameText w
  same_text =
      record {
        text = unformed_text n events;
        agreed = agreed;
        rest = rest_in;
        ascending = λ i k. subst (λ (xs : List (Stage A)). Ascend (deliveries_of xs)) (sym (stages_are n events i))
            (all_ascend w (recovered n events) i (w.cores i).installed (older i) (falls i) (went_through n events i)).0;
        safe = λ i k at agreed safe s. (let c = w.cores i in
            let e = (regular_in c c.installed (older i) at agreed safe
            (subst (λ (xs : List (Stage A)). IsIn (InRegular at agreed safe) xs) (stages_are n events i) s)).1 in
            let q : safe ≡ mark c at.ring = cc in
            let m : mark c at.ring ≤ front c at.ring = mark_below c at.ring ((recovered n events).local i).fit in
            omega (arith, q, m));
      }

  -- Safe delivery

  module _ (i : ℕ) (at : Configuration) (inside : IsIn at (w.cores i).installs) (x : Message A)
      (held : IsIn x (w.cores i).held) (ring : x.ring ≡ at.ring) (user : is_user x.payload ≡ true)
      (marked : x.number ≤ mark (w.cores i) at.ring) (node : IsNode w i) where
    reached : (q : ℕ) → IsIn q (elements at.members) → x.number ≤ front (w.cores q) at.ring
    reached q m =
        let h = (((recovered n events).all)).all in
        let low : 1 ≤ x.number = positive w (recovered n events) i x held in
        elim (mark_safe h.visits w.cores h.chains h.turned h.safe i at.ring) [
          | inl z ↦ absurd (omega (arith, z, low, marked))
          | inr (members, known, safe) ↦ (let same : members ≡ at.members = one_members w.cores h.rings at.ring
              members at.members known ((h.rings).shared i at.ring at.members
              (((recovered n events).local i).among at inside)) in
              let p = (elements_members at.members q).0 (in-contains (elements at.members) q m) in
              let s = safe q p.0 (subst (λ k. IsMember k q) (sym same) p.1) in
              omega (arith, s, marked))
        ]

    in_ring : IsIn x (text_of w at.ring)
    in_ring = subst (λ r. IsIn x (text_of w r)) ring (in_text i node x held)

    through : (q : ℕ) → IsIn q (elements at.members) → IsIn at (regulars_of (stages_in w q))
    through q m =
        let there = heard_in q at.ring x in_ring user (reached q m) in
        let same : there.0 ≡ at = one_configuration w (recovered n events) q i there.0 at there.1 inside there.2 in
        let o = ((recovered n events).local q).ordered in
        let all : regulars_of (stages_in w q) ≡ (w.cores q).installs = ap regulars_of (stages_are n events q)
        ∙ regulars_are (w.cores q) (w.cores q).installed o.older ∙ sym o.newest in
        subst (λ xs. IsIn at xs) (sym all) (subst (λ a. IsIn a (w.cores q).installs) same there.1)

    delivered : (q : ℕ) → IsIn q (elements at.members) → (c : Change A) → IsIn c (changes_in w q) → c.old.ring ≡ at.ring → IsIn x (delivered_by c)
    delivered q m c k e =
        let a = change_is n events q c k in
        let old : at.ring ≡ (a.old).ring = sym e ∙ ap (λ (z : Change A). z.old.ring) a.is in
        let d = w.cores q in
        let p = plan_into d a.next a.old in
        let low = positive w (recovered n events) i x held in
        let up : x.number ≤ front d (a.old).ring = subst (λ (r : RingId). x.number ≤ front d r) old (reached q m) in
        let f = holds-found d.held (a.old).ring x.number ((front_is d.held (a.old).ring).below x.number low up) in
        let g = found_as d.held (a.old).ring x.number f.0 f.1 in
        let same : f.0 ≡ x = same_held w (recovered n events) q i f.0 x g.there held (g.ring_is ∙ sym old ∙ sym ring) g.number_is in
        let mine : IsIn x d.held = subst (λ (z : Message A). IsIn z d.held) same g.there in
        let plan = (a.changed).plan in
        let below : x.number < gap p =
        elim (cases_lt x.number (gap p)) [
          | inl l ↦ l
          | inr l ↦ (let some : 1 ≤ gap p = omega arith in absurd
              (gap_unknown p plan.reach plan.sound
              (plan.within (gap p) ((front_is d.held (a.old).ring).below (gap p) some (omega (arith, l, up))))))
        ] in
        subst (λ (z : Change A). IsIn x (delivered_by z)) (sym a.is)
        (delivered_at w (recovered n events) q a.next a.old a.changed x mine (ring ∙ old) user (inl below))

  pub deliver_safely : DeliversSafely w
  deliver_safely i node at agreed safe s x j q m =
      let c = w.cores i in
      let g = regular_in c c.installed (older i) at agreed safe
      (subst (λ (xs : List (Stage A)). IsIn (InRegular at agreed safe) xs) (stages_are n events i) s) in
      let inside : IsIn at c.installs = among n events i at g.0 in
      let there : IsIn x (delivered_in (regular_stage c at)) = subst (λ (z : Stage A). IsIn x (delivered_in z)) g.1 j in
      let there_heard : IsIn x (heard (found c.held at.ring) 1 (mark c at.ring)) =
      subst (λ (xs : List (Message A)). IsIn x xs) (regular_is w (recovered n events) i at) there in
      let u = (in-filtered (λ (x : Message A). is_user x.payload) x (filter_map (found c.held at.ring) (numbers_from 1 (mark c at.ring))) there_heard).1 in
      let b = in-each (λ (x : Message A). IsIn x c.held × (x.ring ≡ at.ring) × (x.number ≤ mark c at.ring)) x
      (delivered_in (regular_stage c at)) (regular_held w (recovered n events) i at) there in
      record {
        reached = reached i at inside x b.0 b.1 u b.2 node q m;
        through = through i at inside x b.0 b.1 u b.2 node q m;
        delivered = delivered i at inside x b.0 b.1 u b.2 node q m;
      }

  pub synchronous : IsVirtuallySynchronous w
  synchronous =
      record {
        same_text = same_text;
        safe_delivery = deliver_safely;
        same_deliveries = deliver_alike n events;
        configurations = have_configurations n events;
        own_delivery = deliver_own n events;
      }
