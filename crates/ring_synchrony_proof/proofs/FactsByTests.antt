-- Each fact of virtual synchrony is decided by its test.
use Rattle.std.proofs.Common.{◌≡◌, ℕ, ◌≤◌, ◌⊎◌, inl, inr, Bool, true, false, ◌&&◌, ◌==◌, List, [], ◌∷◌}
use Rattle.std.proofs.Common.{map, Option, Some, None, refl, ap, sym, ◌∙◌, subst}
use Rattle.std.specs.Prelude.{nat_le, nat_lt}
use Rattle.std.specs.Bool.{Decides}
use Rattle.std.specs.List.{list_all, list_any, prefix_len}
use Rattle.std.proofs.lemmas.Bool.{false≢true, leb-true, le-leb, and_parts, cond_both}
use Rattle.std.proofs.lemmas.Bool.Decides.{Decides-and, Decides-or, Decides-eqb, Decides-ltb, Decides-like}
use Rattle.ring_base.specs.Numbers.{numbers_from}
use Rattle.ring_base.specs.Processors.{has, elements}
use Rattle.ring_base.specs.Rings.{same_ring}
use Rattle.ring_base.specs.declared.ring_id.RingId.{RingId}
use Rattle.ring_payload.specs.PayloadKinds.{is_user}
use Rattle.ring_wire.specs.declared.message.Message.{Message}
use Rattle.ring_core_spec.specs.Windows.{found, of_ring, is_numbered, holds, highest, front_of}
use Rattle.ring_base.proofs.SameRing.{ring_same, same-self}
use Rattle.ring_core_spec.specs.Commits.{Configuration}
use Rattle.ring_core_spec.specs.State.{Core}
use Rattle.ring_core_spec.specs.Views.{front}
use Rattle.ring_core_proof.specs.FactWords.{IsIn}
use Rattle.ring_core_proof.specs.Worlds.{World, is_node}
use Rattle.ring_core_proof.specs.Texts.{HasOneText, held_by, text_of}
use Rattle.ring_core_proof.specs.Lives.{Stage, InRegular, InTransitional, has_ordered_outputs, delivered_in}
use Rattle.ring_core_proof.specs.CommitRounds.{all_pairs, is_above}
use Rattle.ring_core_proof.proofs.InLists.{in-left, in-right, in-parts, find-in, in-filter, in-filtered, contains-in, in-contains, find-some}
use Rattle.ring_synchrony_proof.specs.Changes.{IsNode, stages_in, agreed_of, deliveries_of, users_upto, regulars_of, members_in}
use Rattle.ring_synchrony_proof.specs.Changes.{alternate, ends_in_regular, Change, changes_in, delivered_by}
use Rattle.ring_synchrony_proof.specs.Synchrony.{IsBefore, Ascend, HasSameText, IsSafelyDelivered, DeliversSafely, DeliversAlike}
use Rattle.ring_synchrony_proof.specs.Synchrony.{IsShared, GoesOn, HasConfigurations, DeliversOwn, IsVirtuallySynchronous}
use Rattle.ring_synchrony_proof.specs.Same.{same_message}
use Rattle.ring_synchrony_proof.specs.Tests.{all_processors, has_message, same_configuration, all_held, is_found, has_one_text, with_ring}
use Rattle.ring_synchrony_proof.specs.Tests.{rings_held, rings_in, agrees_with_text, agrees_with_texts, rests_in_text, is_before}
use Rattle.ring_synchrony_proof.specs.Tests.{is_within_front, has_same_text, delivers_of, is_safely_delivered, is_safe_stage}
use Rattle.ring_synchrony_proof.specs.Tests.{delivers_safely, same_change, are_alike, delivers_alike, is_same_to, is_shared, has_configurations}
use Rattle.ring_synchrony_proof.specs.Tests.{is_taken_part, is_beside, goes_on, is_transitional_member}
use Rattle.ring_synchrony_proof.specs.Tests.{have_configurations, is_own_among, delivers_own, is_virtually_synchronous}
use Rattle.ring_synchrony_proof.proofs.EqualityTests.{ring_decides, configuration_decides, message_decides, messages_decide, change_decides}
use Rattle.ring_synchrony_proof.proofs.Quantified.{all_decides, each_decides, in_decides, when_decides, nodes_decide}

le_decides : (a b : ℕ) → Decides (nat_le a b) (a ≤ b)
le_decides a b = (leb-true a b, le-leb a b)

true_decides : (b : Bool) → Decides b (b ≡ true)
true_decides b = (λ h. h, λ h. h)

has_decides : {A : Type 0} → (x : Message A) (xs : List (Message A)) → Decides (has_message x xs) (IsIn x xs)
has_decides x xs = in_decides same_message message_decides x xs

-- One text

found_decides : {A : Type 0} → (x : Message A) (o : Option (Message A)) → Decides (is_found x o) (o ≡ Some x)
found_decides x None = (λ h. absurd (false≢true h), λ e. absurd (let n : ⊥ = cc in n))
found_decides x (Some y) = Decides-like (same_message x y) (λ e. ap Some (sym e)) (λ e. (let k : y ≡ x = cc in sym k)) (message_decides x y)

text_held : {A : Type 0} → (cores : ℕ → Core A) (ring : RingId) (is : List ℕ) (x : Message A)
    → IsIn x (held_by cores ring is) → IsIn x (all_held cores is) × (x.ring ≡ ring)
text_held cores ring [] x h = absurd h
text_held {A} cores ring (i ∷ is) x h =
    elim (in-parts x (of_ring ring (cores i).held) (held_by cores ring is) h) [
      | inl here ↦ (let f = in-filtered (λ (y : Message A). same_ring y.ring ring) x
          (cores i).held here in (in-left x (cores i).held (all_held cores is) f.0, ring_same x.ring ring f.1))
      | inr there ↦ (let r = text_held cores ring is x there in (in-right x (cores i).held (all_held cores is) r.0, r.1))
    ]

held_text : {A : Type 0} → (cores : ℕ → Core A) (is : List ℕ) (x : Message A) → IsIn x (all_held cores is) → IsIn x (held_by cores x.ring is)
held_text cores [] x h = absurd h
held_text {A} cores (i ∷ is) x h =
    elim (in-parts x (cores i).held (all_held cores is) h) [
      | inl here ↦ in-left x (of_ring x.ring (cores i).held) (held_by cores x.ring is)
          (in-filter (λ (y : Message A). same_ring y.ring x.ring) x (cores i).held here (same-self x.ring))
      | inr there ↦ in-right x (of_ring x.ring (cores i).held) (held_by cores x.ring is) (held_text cores is x there)
    ]

numbered-self : {A : Type 0} → (x : Message A) → is_numbered x.ring x.number x ≡ true
numbered-self x = rw (same-self x.ring, (Decides-eqb x.number x.number).1 refl) refl

module _ {A : Type 0} (w : World A) where
  abbrev everything : List (Message A)
  everything = all_held w.cores (numbers_from 1 w.total)

  one : ((x : Message A) → IsIn x everything → found everything x.ring x.number ≡ Some x)
      → (ring : RingId) (x y : Message A) → IsIn x everything × (x.ring ≡ ring) →
      IsIn y everything × (y.ring ≡ ring) → x.number ≡ y.number → x ≡ y
  one h ring x y hx hy e =
      let a : found everything ring x.number ≡ Some x = subst (λ r. found everything r x.number ≡ Some x) hx.1 (h x hx.0) in
      let b : found everything ring y.number ≡ Some y = subst (λ r. found everything r y.number ≡ Some y) hy.1 (h y hy.0) in
      let c : found everything ring x.number ≡ found everything ring y.number = ap (found everything ring) e in
      let s : Some x ≡ Some y = sym a ∙ c ∙ b in
      cc

  first : ((ring : RingId) → HasOneText w ring) → (x : Message A) → IsIn x everything → found everything x.ring x.number ≡ Some x
  first f x i =
      let s = find-some (is_numbered x.ring x.number) x everything i (numbered-self x) in
      let g = find-in (is_numbered x.ring x.number) s.0 everything s.1 in
      let parts = and_parts (same_ring (s.0).ring x.ring) ((s.0).number == x.number) g.1 in
      let same_name : (s.0).ring ≡ x.ring = ring_same (s.0).ring x.ring parts.0 in
      let there : IsIn s.0 (held_by w.cores x.ring (numbers_from 1 w.total)) =
      subst (λ r. IsIn s.0 (held_by w.cores r (numbers_from 1 w.total))) same_name
      (held_text w.cores (numbers_from 1 w.total) s.0 g.0) in
      let e : s.0 ≡ x = f x.ring s.0 x (in-contains (text_of w x.ring) s.0 there)
      (in-contains (text_of w x.ring) x (held_text w.cores (numbers_from 1 w.total) x i))
      ((Decides-eqb (s.0).number x.number).0 parts.1) in
      s.1 ∙ ap Some e

  one_text_decides : Decides (has_one_text w) ((ring : RingId) → HasOneText w ring)
  one_text_decides =
      let nodes = numbers_from 1 w.total in
      Decides-like (has_one_text w)
      (λ h ring x y hx hy e. one h ring x y
      (text_held w.cores ring nodes x (contains-in (text_of w ring) hx.0 x hx.1 hx.2))
      (text_held w.cores ring nodes y (contains-in (text_of w ring) hy.0 y hy.1 hy.2)) e)
      (λ f x i. first f x i)
      (all_decides (λ (x : Message A). is_found x (found everything x.ring x.number))
      (λ (x : Message A). found everything x.ring x.number ≡ Some x)
      (λ x. found_decides x (found everything x.ring x.number)) everything)

-- Agreed messages: of a ring that a processor neither installed nor holds a message of, there are none

with_more : (r ring : RingId) (rings : List RingId) → IsIn r rings → IsIn r (with_ring ring rings)
with_more r ring rings h = cond_both (list_any (same_ring ring) rings) rings (ring ∷ rings) (IsIn r) (λ e. h) (λ e. inr h)

with_it : (ring : RingId) (rings : List RingId) → IsIn ring (with_ring ring rings)
with_it ring rings = cond_both (list_any (same_ring ring) rings) rings (ring ∷ rings) (IsIn ring)
    (λ e. (in_decides same_ring ring_decides ring rings).0 e) (λ e. inl refl)

rings_told : {A : Type 0} → (xs : List (Message A)) (r : RingId) (rings : List RingId) → IsIn r rings → IsIn r (rings_held xs rings)
rings_told [] r rings h = h
rings_told (x ∷ xs) r rings h = with_more r x.ring (rings_held xs rings) (rings_told xs r rings h)

rings_of_held : {A : Type 0} → (xs : List (Message A)) (x : Message A) (rings : List RingId) → IsIn x xs → IsIn x.ring (rings_held xs rings)
rings_of_held [] x rings h = absurd h
rings_of_held {A} (y ∷ xs) x rings (inl e) =
    subst (λ (z : Message A). IsIn z.ring (with_ring y.ring (rings_held xs rings))) (sym e)
    (with_it y.ring (rings_held xs rings))
rings_of_held (y ∷ xs) x rings (inr h) = with_more x.ring y.ring (rings_held xs rings) (rings_of_held xs x rings h)

abbrev ring_names : {A : Type 0} → List (Stage A) → List RingId
ring_names stages = map (λ (at : Configuration). at.ring) (regulars_of stages)

none_agreed : {A : Type 0} → (ring : RingId) (stages : List (Stage A)) → (IsIn ring (ring_names stages) → ⊥) → agreed_of ring stages ≡ []
none_agreed ring [] h = refl
none_agreed ring (InTransitional old new members rest ∷ older) h = rw (none_agreed ring older h) refl
none_agreed {A} ring (InRegular at agreed safe ∷ older) h =
    rw (none_agreed ring older (λ i. h (inr i)))
    (cond_both (same_ring at.ring ring) agreed [] (λ (xs : List (Message A)). xs ≡ []) (λ e. absurd (h (inl (sym (ring_same at.ring ring e))))) (λ e. refl))

none_held : {A : Type 0} → (ring : RingId) (held : List (Message A)) → ((x : Message A) → IsIn x held → x.ring ≡ ring → ⊥) → of_ring ring held ≡ []
none_held ring [] h = refl
none_held {A} ring (x ∷ held) h =
    cond_both (same_ring x.ring ring) (x ∷ of_ring ring held) (of_ring ring held) (λ (xs : List (Message A)). xs ≡ [])
    (λ e. absurd (h x (inl refl) (ring_same x.ring ring e))) (λ e. none_held ring held (λ y i. h y (inr i)))

no_front : {A : Type 0} → (ring : RingId) (held : List (Message A)) → of_ring ring held ≡ [] → front_of held ring ≡ 0
no_front ring held e =
    let low : highest held ring ≡ 0 = rw e refl in
    ap (λ n. prefix_len (holds held ring) (numbers_from 1 n)) low

module _ {A : Type 0} (w : World A) (i : ℕ) where
  abbrev Agrees : RingId → Type 0
  Agrees ring = agreed_of ring (stages_in w i) ≡ users_upto (text_of w ring) ring (front (w.cores i) ring)

  unknown : (ring : RingId) → (IsIn ring (rings_in w i) → ⊥) → Agrees ring
  unknown ring h =
      let a : agreed_of ring (stages_in w i) ≡ [] = none_agreed ring (stages_in w i)
      (λ k. h (rings_told (w.cores i).held ring (ring_names (stages_in w i)) k)) in
      let b : front (w.cores i) ring ≡ 0 =
      no_front ring (w.cores i).held (none_held ring (w.cores i).held
      (λ x k e. h (subst (λ r. IsIn r (rings_in w i)) e
      (rings_of_held (w.cores i).held x (ring_names (stages_in w i)) k)))) in
      let c : users_upto (text_of w ring) ring (front (w.cores i) ring) ≡ [] = ap (users_upto (text_of w ring) ring) b in
      a ∙ sym c

  by_test : (ring : RingId) (b : Bool) → list_any (same_ring ring) (rings_in w i) ≡ b → ((r : RingId) → IsIn r (rings_in w i) → Agrees r) → Agrees ring
  by_test ring true e h = h ring ((in_decides same_ring ring_decides ring (rings_in w i)).0 e)
  by_test ring false e h = unknown ring (λ k. false≢true (sym e ∙ (in_decides same_ring ring_decides ring (rings_in w i)).1 k))

  agreed_decides : Decides (agrees_with_texts w i) ((ring : RingId) → Agrees ring)
  agreed_decides =
      Decides-like (agrees_with_texts w i) (λ h ring. by_test ring (list_any (same_ring ring) (rings_in w i)) refl h) (λ f ring k. f ring)
      (all_decides (agrees_with_text w i) Agrees (λ ring. messages_decide (agreed_of ring (stages_in w i))
      (users_upto (text_of w ring) ring (front (w.cores i) ring))) (rings_in w i))

-- The rest, and safe numbers

abbrev RestIn : {A : Type 0} → World A → Stage A → Type 0
RestIn w (InRegular at agreed safe) = Unit {0}
RestIn {A} w (InTransitional old new members rest) = (x : Message A) → IsIn x rest → IsIn x (text_of w old) × (is_user x.payload ≡ true)

rest_decides : {A : Type 0} → (w : World A) (s : Stage A) → Decides (rests_in_text w s) (RestIn w s)
rest_decides w (InRegular at agreed safe) = (λ h. tt, λ h. refl)
rest_decides {A} w (InTransitional old new members rest) =
    all_decides (λ (x : Message A). has_message x (text_of w old) && is_user x.payload) (λ (x : Message A). IsIn x (text_of w old) × (is_user x.payload ≡ true))
    (λ x. Decides-and (has_message x (text_of w old)) (is_user x.payload) (has_decides x (text_of w old)) (true_decides (is_user x.payload))) rest

abbrev WithinFront : {A : Type 0} → Core A → Stage A → Type 0
WithinFront c (InRegular at agreed safe) = safe ≤ front c at.ring
WithinFront c (InTransitional old new members rest) = Unit {0}

within_decides : {A : Type 0} → (c : Core A) (s : Stage A) → Decides (is_within_front c s) (WithinFront c s)
within_decides c (InRegular at agreed safe) = le_decides safe (front c at.ring)
within_decides c (InTransitional old new members rest) = (λ h. tt, λ h. refl)

before_decides : {A : Type 0} → (x y : Message A) → Decides (is_before x y) (IsBefore x y)
before_decides x y = when_decides (same_ring x.ring y.ring) (nat_lt x.number y.number) (ring_decides x.ring y.ring) (Decides-ltb x.number y.number)

ascend_decides : {A : Type 0} → (xs : List (Message A)) → Decides (all_pairs is_before xs) (Ascend xs)
ascend_decides [] = (λ h. tt, λ h. refl)
ascend_decides (x ∷ xs) = Decides-and (list_all (is_before x) xs) (all_pairs is_before xs)
    (each_decides (is_before x) (IsBefore x) (before_decides x) xs) (ascend_decides xs)

all_stages : {A : Type 0} → (p : Stage A → Bool) (P : Stage A → Type 0) → ((s : Stage A) → Decides (p s) (P s)) → (w : World A) →
    Decides (all_processors w (λ i. list_all p (stages_in w i))) ((i : ℕ) → IsNode w i → (s : Stage A) → IsIn s (stages_in w i) → P s)
all_stages p P d w = nodes_decide w.total (λ i. list_all p (stages_in w i)) _ (λ i. all_decides p P d (stages_in w i))

pub same_text_decides : {A : Type 0} → (w : World A) → Decides (has_same_text w) (HasSameText w)
same_text_decides {A} w =
    let tails = nodes_decide w.total (λ i. list_all (is_within_front (w.cores i)) (stages_in w i)) _ (λ i. all_decides
    (is_within_front (w.cores i)) (WithinFront (w.cores i)) (within_decides (w.cores i)) (stages_in w i)) in
    let ups = nodes_decide w.total (λ i. all_pairs is_before (deliveries_of (stages_in w i))) _ (λ i. ascend_decides (deliveries_of (stages_in w i))) in
    let rests = all_stages (rests_in_text w) (RestIn w) (rest_decides w) w in
    let agreeds = nodes_decide w.total (agrees_with_texts w) _ (agreed_decides w) in
    Decides-like (has_same_text w)
    (λ h. record {
      text = h.0;
      agreed = h.1.0;
      rest = λ i n old new members rest k. h.1.1.0 i n (InTransitional old new members rest) k;
      ascending = h.1.1.1.0;
      safe = λ i n at agreed safe k. h.1.1.1.1 i n (InRegular at agreed safe) k;
    })
    (λ r. (r.text, (r.agreed, (rest_back r, (r.ascending, safe_back r)))))
    (Decides-and _ _ (one_text_decides w) (Decides-and _ _ agreeds (Decides-and _ _ rests (Decides-and _ _ ups tails))))
  where
    rest_back : HasSameText w → (i : ℕ) → IsNode w i → (s : Stage A) → IsIn s (stages_in w i) → RestIn w s
    rest_back r i n (InRegular at agreed safe) k = tt
    rest_back r i n (InTransitional old new members rest) k = r.rest i n old new members rest k

    safe_back : HasSameText w → (i : ℕ) → IsNode w i → (s : Stage A) → IsIn s (stages_in w i) → WithinFront (w.cores i) s
    safe_back r i n (InRegular at agreed safe) k = r.safe i n at agreed safe k
    safe_back r i n (InTransitional old new members rest) k = tt

-- Safe delivery

delivered_decides : {A : Type 0} → (w : World A) (at : Configuration) (x : Message A) (q : ℕ)
    → Decides (is_safely_delivered w at x q) (IsSafelyDelivered w at x q)
delivered_decides {A} w at x q =
    Decides-like (is_safely_delivered w at x q)
    (λ h. record { reached = h.0; through = h.1.0; delivered = λ c k e. h.1.1 c k e })
    (λ r. (r.reached, (r.through, r.delivered)))
    (Decides-and _ _ (le_decides x.number (front (w.cores q) at.ring))
    (Decides-and _ _ (in_decides same_configuration configuration_decides at (regulars_of (stages_in w q)))
    (all_decides (delivers_of at.ring x) (λ (c : Change A). c.old.ring ≡ at.ring → IsIn x (delivered_by c))
    (λ c. when_decides (same_ring c.old.ring at.ring) (has_message x (delivered_by c))
    (ring_decides c.old.ring at.ring) (has_decides x (delivered_by c))) (changes_in w q))))

abbrev IsSafeStage : {A : Type 0} → World A → Stage A → Type 0
IsSafeStage {A} w (InRegular at agreed safe) = (x : Message A) → IsIn x (delivered_in (InRegular at agreed safe))
    → (q : ℕ) → IsIn q (elements at.members) → IsSafelyDelivered w at x q
IsSafeStage w (InTransitional old new members rest) = Unit {0}

safe_stage_decides : {A : Type 0} → (w : World A) (s : Stage A) → Decides (is_safe_stage w s) (IsSafeStage w s)
safe_stage_decides {A} w (InRegular at agreed safe) =
    all_decides (λ (x : Message A). list_all (is_safely_delivered w at x) (elements at.members)) _
    (λ x. all_decides (is_safely_delivered w at x) (IsSafelyDelivered w at x) (delivered_decides w at x)
    (elements at.members)) (delivered_in (InRegular at agreed safe))
safe_stage_decides w (InTransitional old new members rest) = (λ h. tt, λ h. refl)

pub safely_decides : {A : Type 0} → (w : World A) → Decides (delivers_safely w) (DeliversSafely w)
safely_decides {A} w =
    Decides-like (delivers_safely w) (λ h i n at agreed safe k. h i n (InRegular at agreed safe) k) back
    (all_stages (is_safe_stage w) (IsSafeStage w) (safe_stage_decides w) w)
  where
    back : DeliversSafely w → (i : ℕ) → IsNode w i → (s : Stage A) → IsIn s (stages_in w i) → IsSafeStage w s
    back f i n (InRegular at agreed safe) k = f i n at agreed safe k
    back f i n (InTransitional old new members rest) k = tt

-- Same deliveries

alike_decides : {A : Type 0} → (a b : Change A) → Decides (are_alike a b) (a.old.ring ≡ b.old.ring → a.new.ring ≡ b.new.ring → a ≡ b)
alike_decides a b =
    Decides-like (are_alike a b) (λ h o n. h (o, n)) (λ f p. f p.0 p.1)
    (when_decides (same_ring a.old.ring b.old.ring && same_ring a.new.ring b.new.ring) (same_change a b)
    (Decides-and _ _ (ring_decides a.old.ring b.old.ring) (ring_decides a.new.ring b.new.ring)) (change_decides a b))

pub alike_all : {A : Type 0} → (w : World A) → Decides (delivers_alike w) (DeliversAlike w)
alike_all {A} w =
    Decides-like (delivers_alike w) (λ h i j n m a b ka kb. h i n j m a ka b kb) (λ f i n j m a ka b kb. f i j n m a b ka kb)
    (nodes_decide w.total _ _ (λ i. nodes_decide w.total _ _ (λ j. all_decides _ _ (λ a. all_decides
    (are_alike a) _ (alike_decides a) (changes_in w j)) (changes_in w i))))

-- Configurations

same_to_decides : (at b : Configuration) → Decides (is_same_to at b) (at.ring ≡ b.ring → at ≡ b)
same_to_decides at b = when_decides (same_ring at.ring b.ring) (same_configuration at b) (ring_decides at.ring b.ring) (configuration_decides at b)

shared_decides : {A : Type 0} → (w : World A) (at : Configuration) → Decides (is_shared w at) (IsShared w at)
shared_decides {A} w at =
    Decides-like (is_shared w at)
    (λ h. record { same = λ j n b k e. h.0 j n b k e; taken = λ j n b k e. h.1.0 j n b k e; group = h.1.1 })
    (λ r. (r.same, (r.taken, r.group)))
    (Decides-and _ _
    (nodes_decide w.total (λ j. list_all (is_same_to at) (regulars_of (stages_in w j))) _
    (λ j. all_decides (is_same_to at) _ (same_to_decides at) (regulars_of (stages_in w j))))
    (Decides-and _ _
    (nodes_decide w.total (λ j. list_all (is_same_to at) (w.cores j).rings) _
    (λ j. all_decides (is_same_to at) _ (same_to_decides at) (w.cores j).rings))
    (all_decides (is_node w) (IsNode w) (λ q. true_decides (is_node w q)) (elements at.members))))

goes_on_decides : {A : Type 0} → (w : World A) (c : Change A) (q : ℕ) → Decides (goes_on w c q) (GoesOn w c q)
goes_on_decides {A} w c q =
    Decides-like (goes_on w c q)
    (λ h. record { leaving = h.0; entering = h.1.0; through = h.1.1.0; straight = h.1.1.1 })
    (λ r. (r.leaving, (r.entering, (r.through, r.straight))))
    (Decides-and _ _ (true_decides (has c.old.members q))
    (Decides-and _ _ (true_decides (has c.new.members q))
    (Decides-and _ _ (in_decides same_configuration configuration_decides c.old (regulars_of (stages_in w q)))
    (all_decides (is_beside c) (λ (b : Configuration). (b.ring.seq ≤ c.old.ring.seq) ⊎ (c.new.ring.seq ≤ b.ring.seq))
    (λ b. Decides-or _ _ (le_decides b.ring.seq c.old.ring.seq) (le_decides c.new.ring.seq b.ring.seq)) (regulars_of (stages_in w q))))))

mate_decides : {A : Type 0} → (w : World A) (c : Change A) (q : ℕ) → Decides (is_transitional_member w c q) (GoesOn w c q → has c.transitional_members q ≡ true)
mate_decides w c q = when_decides (goes_on w c q) (has c.transitional_members q) (goes_on_decides w c q) (true_decides (has c.transitional_members q))

pub configurations_decide : {A : Type 0} → (w : World A) (i : ℕ) → Decides (has_configurations w i) (HasConfigurations w i)
configurations_decide {A} w i =
    Decides-like (has_configurations w i)
    (λ h. record {
      told = h.0;
      own = h.1.0;
      alternating = h.1.1.0;
      newest = h.1.1.1.0;
      rising = h.1.1.1.1.0;
      took_part = h.1.1.1.1.1.0;
      shared = h.1.1.1.1.1.1.0;
      transitional_members = h.1.1.1.1.1.1.1.0;
      all_transitional_members = h.1.1.1.1.1.1.1.1;
    })
    (λ r. (
      r.told,
      (r.own, (r.alternating, (r.newest, (r.rising, (r.took_part, (r.shared, (r.transitional_members, r.all_transitional_members))))))),
    ))
    (Decides-and _ _ (true_decides (has_ordered_outputs w i))
    (Decides-and _ _ (all_decides (λ (s : Stage A). has (members_in s) i)
    (λ (s : Stage A). has (members_in s) i ≡ true) (λ s. true_decides (has (members_in s) i)) (stages_in w i))
    (Decides-and _ _ (true_decides (alternate (stages_in w i)))
    (Decides-and _ _ (true_decides (ends_in_regular (stages_in w i)))
    (Decides-and _ _ (true_decides (all_pairs is_above (regulars_of (stages_in w i))))
    (Decides-and _ _ (all_decides (is_taken_part w i) (λ (at : Configuration). IsIn at (w.cores i).rings)
    (λ at. in_decides same_configuration configuration_decides at (w.cores i).rings) (regulars_of (stages_in w i)))
    (Decides-and _ _ (all_decides (is_shared w) (IsShared w) (shared_decides w) (regulars_of (stages_in w i)))
    (Decides-and _ _
    (all_decides _ _ (λ (c : Change A). all_decides (goes_on w c) (GoesOn w c) (goes_on_decides w c) (elements c.transitional_members)) (changes_in w i))
    (all_decides _ _ (λ (c : Change A). all_decides (is_transitional_member w c) _ (mate_decides w c) (elements c.new.members)) (changes_in w i))))))))))

pub configurations_all : {A : Type 0} → (w : World A) → Decides (have_configurations w) ((i : ℕ) → IsNode w i → HasConfigurations w i)
configurations_all w = nodes_decide w.total (has_configurations w) (HasConfigurations w) (configurations_decide w)

-- Own messages

own_decides : {A : Type 0} → (i : ℕ) (xs : List (Message A)) (x : Message A) → Decides (is_own_among i xs x)
    (x.sender ≡ i → is_user x.payload ≡ true → IsIn x xs)
own_decides i xs x =
    Decides-like (is_own_among i xs x) (λ h a b. h (a, b)) (λ f p. f p.0 p.1)
    (when_decides ((x.sender == i) && is_user x.payload) (has_message x xs) (Decides-and _ _ (Decides-eqb x.sender i)
    (true_decides (is_user x.payload))) (has_decides x xs))

pub own_all : {A : Type 0} → (w : World A) → Decides (delivers_own w) (DeliversOwn w)
own_all {A} w =
    nodes_decide w.total _ _ (λ i. all_decides _ _ (λ (c : Change A). all_decides
    (is_own_among i (delivered_by c)) _ (own_decides i (delivered_by c)) (text_of w c.old.ring)) (changes_in w i))

-- All five

pub synchrony_decides : {A : Type 0} → (w : World A) → Decides (is_virtually_synchronous w) (IsVirtuallySynchronous w)
synchrony_decides w =
    Decides-like (is_virtually_synchronous w)
    (λ h. record { same_text = h.0; safe_delivery = h.1.0; same_deliveries = h.1.1.0; configurations = h.1.1.1.0; own_delivery = h.1.1.1.1 })
    (λ r. (r.same_text, (r.safe_delivery, (r.same_deliveries, (r.configurations, r.own_delivery)))))
    (Decides-and _ _ (same_text_decides w)
    (Decides-and _ _ (safely_decides w) (Decides-and _ _ (alike_all w) (Decides-and _ _ (configurations_all w)
    (own_all w)))))
