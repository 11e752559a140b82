-- Lives alternate and each processor is a member of its configurations; processors that go on together deliver the
-- same; and each delivers its own messages.
use Rattle.std.proofs.Common.{◌≡◌, ℕ, ◌-◌, ◌<◌, ◌≤◌, ◌⊎◌, inl, inr, true, List, [], ◌∷◌, ◌++◌, Some, refl, ap, sym, ◌∙◌, subst, arith}
use Rattle.std.specs.Prelude.{filter, filter_map, nat_le}
use Rattle.std.specs.List.{AllByRecursion as Each}
use Rattle.std.proofs.lemmas.Bool.{cases_lt, and_parts, leb-true}
use Rattle.ring_base.specs.Numbers.{numbers_from}
use Rattle.ring_base.specs.Processors.{has, elements}
use Rattle.ring_base.specs.Elements.{elements_members}
use Rattle.ring_base.specs.declared.ring_id.RingId.{RingId}
use Rattle.ring_base.proofs.SameRing.{same-self}
use Rattle.ring_payload.specs.PayloadKinds.{is_user}
use Rattle.ring_wire.specs.declared.message.Message.{Message}
use Rattle.ring_core_spec.specs.Windows.{found, holds}
use Rattle.ring_core_spec.proofs.Windows.{front_is, holds-found}
use Rattle.ring_core_spec.specs.Tokens.{TokenVisit, numbered}
use Rattle.ring_core_spec.specs.Commits.{Configuration}
use Rattle.ring_core_spec.specs.Recoveries.{Plan, plan_of, safe, gap, SameText, is_complete, rest_messages}
use Rattle.ring_core_spec.proofs.Recoveries.{same_rests}
use Rattle.ring_core_spec.specs.State.{Core}
use Rattle.ring_core_spec.specs.Views.{front, mark, entries_for}
use Rattle.ring_core_proof.specs.FactWords.{IsIn}
use Rattle.ring_core_proof.specs.declared.event.RingEvent.{RingEvent}
use Rattle.ring_core_proof.specs.Worlds.{World, run, unformed}
use Rattle.ring_core_proof.specs.Texts.{text_of}
use Rattle.ring_core_proof.specs.Lives.{Stage, stages_of, delivered_in}
use Rattle.ring_core_proof.specs.CommitRounds.{all_pairs, is_above}
use Rattle.ring_core_proof.proofs.InLists.{in-each, in-left, in-right, in-contains, in-numbers}
use Rattle.ring_core_proof.proofs.MembersOfRings.{member_in}
use Rattle.ring_core_proof.proofs.WithinWindow.{mark_below}
use Rattle.ring_core_proof.proofs.Rounds.{pairs_fall}
use Rattle.ring_core_proof.proofs.OwnMessages.{holds_in}
use Rattle.ring_chain_proof.specs.ChainWords.{IsGenuine, IsRingOf}
use Rattle.ring_chain_proof.proofs.OneText.{one_text, numbered_in}
use Rattle.ring_chain_proof.proofs.Rings.{one_members}
use Rattle.ring_chain_proof.proofs.AllLayers.{Holds}
use Rattle.ring_chain_proof.proofs.Plans.{IsPlan, one_plan}
use Rattle.ring_chain_proof.proofs.ChainInRuns.{held_somewhere}
use Rattle.ring_synchrony_proof.specs.Changes.{IsNode, stages_in, regulars_of, members_in, alternate, ends_in_regular, Change, changes_of}
use Rattle.ring_synchrony_proof.specs.Changes.{changes_in, delivered_by}
use Rattle.ring_synchrony_proof.specs.Synchrony.{DeliversAlike, DeliversOwn, IsShared, GoesOn, HasConfigurations}
use Rattle.ring_synchrony_proof.specs.LifeOfCore.{regular_stage, plan_into, earlier_stages}
use Rattle.ring_synchrony_proof.proofs.LifeAfterStep.{heard, found_alike, tale_is}
use Rattle.ring_synchrony_proof.proofs.LivesOfWorlds.{lives_are, all_well_told}
use Rattle.ring_synchrony_proof.proofs.Planned.{HasChanged, HaveChanged, AllChanged}
use Rattle.ring_synchrony_proof.proofs.Recovering.{Recovered, numbered_by, all_recovered}
use Rattle.ring_synchrony_proof.proofs.GoingOn.{mate_came, came_mate}
use Rattle.ring_synchrony_proof.proofs.UserMessages.{found_as, heard_upto, in_heard, in_rest}

-- The stages and changes of a core's life

abbrev pub stages_tale : {A : Type 0} → Core A → Configuration → List Configuration → List (Stage A)
stages_tale c next older = regular_stage c next ∷ earlier_stages c next older

abbrev pub change_of : {A : Type 0} → Core A → Configuration → Configuration → Change A
change_of c next old = record {
  old = old;
  regular = delivered_in (regular_stage c old);
  transitional_members = (plan_into c next old).transitional_members;
  rest = rest_messages (plan_into c next old) c.held;
  new = next;
}

abbrev changes_tale : {A : Type 0} → Core A → Configuration → List Configuration → List (Change A)
changes_tale c next [] = []
changes_tale c next (old ∷ older) = change_of c next old ∷ changes_tale c old older

changes_are : {A : Type 0} → (c : Core A) (next : Configuration) (older : List Configuration)
    → changes_of (stages_tale c next older) ≡ changes_tale c next older
changes_are c next [] = refl
changes_are {A} c next (old ∷ older) = ap (λ (xs : List (Change A)). change_of c next old ∷ xs) (changes_are c old older)

pub regulars_are : {A : Type 0} → (c : Core A) (next : Configuration) (older : List Configuration) → regulars_of (stages_tale c next older) ≡ next ∷ older
regulars_are c next [] = refl
regulars_are c next (old ∷ older) = ap (λ xs. next ∷ xs) (regulars_are c old older)

alternates : {A : Type 0} → (c : Core A) (next : Configuration) (older : List Configuration) → alternate (stages_tale c next older) ≡ true
alternates c next [] = refl
alternates c next (old ∷ older) = rw (same-self next.ring, same-self old.ring, alternates c old older) refl

-- a change of the life is one that the core made
pub record IsChangeOf {A : Type 0} (c : Core A) (a : Change A) : Type 0 where
  pub next : Configuration
  pub old : Configuration
  pub is : a ≡ change_of c next old
  pub changed : HasChanged c next old
  pub next_in : IsIn next c.installs
  pub old_in : IsIn old c.installs

change_in : {A : Type 0} → (c : Core A) (next : Configuration) (older : List Configuration)
    → ((x : Configuration) → IsIn x (next ∷ older) → IsIn x c.installs) →
    HaveChanged c next older → (a : Change A) → IsIn a (changes_tale c next older) → IsChangeOf c a
change_in c next [] f h a i = absurd i
change_in c next (old ∷ older) f h a (inl e) = record {
  next = next;
  old = old;
  is = e;
  changed = h.0;
  next_in = f next (inl refl);
  old_in = f old (inr (inl refl));
}
change_in c next (old ∷ older) f h a (inr i) = change_in c old older (λ x j. f x (inr j)) h.1 a i

-- the members of each stage
stage_own : {A : Type 0} → (c : Core A) (next : Configuration) (older : List Configuration)
    → ((x : Configuration) → IsIn x (next ∷ older) → has x.members c.me ≡ true) →
    HaveChanged c next older → (s : Stage A) → IsIn s (stages_tale c next older) → has (members_in s) c.me ≡ true
stage_own {A} c next older f h s (inl e) = subst (λ (s : Stage A). has (members_in s) c.me ≡ true) (sym e) (f next (inl refl))
stage_own c next [] f h s (inr i) = absurd i
stage_own {A} c next (old ∷ older) f h s (inr (inl e)) = subst (λ (s : Stage A). has (members_in s) c.me ≡ true) (sym e) ((h.0).plan).transitional_member
stage_own c next (old ∷ older) f h s (inr (inr i)) = stage_own c old older (λ x j. f x (inr j)) h.1 s i

module _ {A : Type 0} (w : World A) (r : Recovered w.cores w.frames) where
  abbrev h : Holds w.cores w.frames
  h = (r.all).all

  -- two processors hold the same messages of a ring
  pub genuine : (i : ℕ) (x : Message A) → IsIn x (w.cores i).held → IsGenuine h.visits x
  genuine i x j = in-each (IsGenuine h.visits) x (w.cores i).held ((h.texts).held i) j

  pub same_held : (i j : ℕ) (x y : Message A) → IsIn x (w.cores i).held → IsIn y (w.cores j).held → x.ring ≡ y.ring → x.number ≡ y.number → x ≡ y
  same_held i j x y a b e n = one_text h.visits w.cores h.chains x y (genuine i x a) (genuine j y b) e n

  text_same : (i j : ℕ) (ring : RingId) → SameText ring (w.cores i).held (w.cores j).held
  text_same i j ring n x y e f =
      let a = found_as (w.cores i).held ring n x e in
      let b = found_as (w.cores j).held ring n y f in
      same_held i j x y a.there b.there (a.ring_is ∙ sym b.ring_is) (a.number_is ∙ sym b.number_is)

  found_both : (i j : ℕ) (ring : RingId) (n : ℕ) → holds (w.cores i).held ring n ≡ true → holds (w.cores j).held ring n ≡ true →
      found (w.cores i).held ring n ≡ found (w.cores j).held ring n
  found_both i j ring n a b =
      let x = holds-found (w.cores i).held ring n a in
      let y = holds-found (w.cores j).held ring n b in
      x.1 ∙ ap Some (text_same i j ring n x.0 y.0 x.1 y.1) ∙ sym y.1

  -- a ring that processors took part in has one configuration
  one_taken : (i j : ℕ) (x y : Configuration) → IsIn x (w.cores i).rings → IsIn y (w.cores j).rings → x.ring ≡ y.ring → x ≡ y
  one_taken i j x y a b e =
      let p : IsRingOf w.cores x.ring x.members = (h.rings).shared i x.ring x.members a in
      let q : IsRingOf w.cores y.ring y.members = (h.rings).shared j y.ring y.members b in
      let m : x.members ≡ y.members = one_members w.cores h.rings x.ring x.members y.members p (subst (λ s. IsRingOf w.cores s y.members) (sym e) q) in
      λ k. record { ring = e k; members = m k }

  -- so has one that they installed
  pub one_configuration : (i j : ℕ) (x y : Configuration) → IsIn x (w.cores i).installs → IsIn y (w.cores j).installs → x.ring ≡ y.ring → x ≡ y
  one_configuration i j x y a b e = one_taken i j x y ((r.local i).among x a) ((r.local j).among y b) e

  -- the deliveries in a regular configuration are the agreed messages up to the mark
  pub regular_is : (i : ℕ) (old : Configuration) → delivered_in (regular_stage (w.cores i) old) ≡ heard
      (found (w.cores i).held old.ring) 1 (mark (w.cores i) old.ring)
  regular_is i old =
      let c = w.cores i in
      let f = front c old.ring in
      let low : mark c old.ring ≤ f = mark_below c old.ring ((r.local i).fit) in
      let same : f - 0 ≡ f = omega arith in
      ap (λ n. filter (λ (x : Message A). nat_le x.number (mark c old.ring)) (heard (found c.held old.ring) 1 n)) same
      ∙ heard_upto c.held old.ring (mark c old.ring) f low

  -- up to the mark all messages are held
  marked_held : (i : ℕ) (ring : RingId) (n : ℕ) → 1 ≤ n → n ≤ mark (w.cores i) ring → holds (w.cores i).held ring n ≡ true
  marked_held i ring n low l =
      let c = w.cores i in
      let m : mark c ring ≤ front c ring = mark_below c ring ((r.local i).fit) in
      (front_is c.held ring).below n low (omega (arith, l, m))

  module _ (i j : ℕ) (next old : Configuration) (a : HasChanged (w.cores i) next old) (b : HasChanged (w.cores j) next old) where
    entries_same : entries_for next.ring (w.cores i).plans ≡ entries_for next.ring (w.cores j).plans
    entries_same =
        let p = a.plan in
        let q = b.plan in
        let k = in-each (IsPlan w.cores) p.commit (w.cores i).plans ((r.all).plans i) p.there in
        let l = in-each (IsPlan w.cores) q.commit (w.cores j).plans ((r.all).plans j) q.there in
        p.entries ∙ (one_plan w.cores h.rings h.filed p.commit q.commit k l (p.ring ∙ sym q.ring)).1 ∙ sym q.entries

    plans_same : plan_into (w.cores i) next old ≡ plan_into (w.cores j) next old
    plans_same = ap (plan_of old.ring next.members) entries_same

    marks_same : mark (w.cores i) old.ring ≡ mark (w.cores j) old.ring
    marks_same = (a.plan).marked ∙ ap safe plans_same ∙ sym (b.plan).marked

    regulars_same : delivered_in (regular_stage (w.cores i) old) ≡ delivered_in (regular_stage (w.cores j) old)
    regulars_same =
        let m = mark (w.cores i) old.ring in
        let one : filter_map (found (w.cores i).held old.ring) (numbers_from 1 m) ≡ filter_map (found (w.cores j).held old.ring) (numbers_from 1 m) =
        found_alike (found (w.cores i).held old.ring) (found (w.cores j).held old.ring) 1 m
        (λ n low up. found_both i j old.ring n (marked_held i old.ring n low (omega (arith, up)))
        (marked_held j old.ring n low (omega (arith, up, marks_same)))) in
        regular_is i old ∙ ap (filter (λ (x : Message A). is_user x.payload)) one
        ∙ ap (heard (found (w.cores j).held old.ring) 1) marks_same ∙ sym (regular_is j old)

    rests_same : rest_messages (plan_into (w.cores i) next old) (w.cores i).held ≡ rest_messages (plan_into (w.cores j) next old) (w.cores j).held
    rests_same =
        let p = plan_into (w.cores i) next old in
        same_rests p (w.cores i).held (w.cores j).held (text_same i j old.ring) a.complete
        (subst (λ (q : Plan). is_complete q (w.cores j).held ≡ true) (sym plans_same) b.complete)
        ∙ ap (λ (q : Plan). rest_messages q (w.cores j).held) plans_same

    change_same : change_of (w.cores i) next old ≡ change_of (w.cores j) next old
    change_same = λ k. record { old = old; regular = regulars_same k; transitional_members = (plans_same k).transitional_members; rest = rests_same k; new = next }

  alike : (i j : ℕ) (a b : Change A) → IsChangeOf (w.cores i) a → IsChangeOf (w.cores j) b → a.old.ring ≡ b.old.ring → a.new.ring ≡ b.new.ring → a ≡ b
  alike i j a b p q e f =
      let old : p.old ≡ q.old = one_configuration i j p.old q.old p.old_in q.old_in
      (sym (ap (λ (x : Change A). x.old.ring) p.is) ∙ e ∙ ap (λ (x : Change A). x.old.ring) q.is) in
      let next : p.next ≡ q.next = one_configuration i j p.next q.next p.next_in q.next_in
      (sym (ap (λ (x : Change A). x.new.ring) p.is) ∙ f ∙ ap (λ (x : Change A). x.new.ring) q.is) in
      let there : HasChanged (w.cores j) p.next p.old = subst (λ n. HasChanged (w.cores j) n p.old) (sym next)
      (subst (λ o. HasChanged (w.cores j) q.next o) (sym old) q.changed) in
      p.is ∙ change_same i j p.next p.old p.changed there ∙ ap (λ n. change_of (w.cores j) n p.old) next ∙ ap (change_of (w.cores j) q.next) old ∙ sym q.is

  -- a processor's own message
  own_held : (i : ℕ) (ring : RingId) (x : Message A) → IsIn x (text_of w ring) → x.sender ≡ i → IsIn x (w.cores i).held × (x.ring ≡ ring)
  own_held i ring x there s =
      let a = held_somewhere w.cores ring (numbers_from 1 w.total) x there in
      let b = numbered_by w.cores w.frames h x (genuine a.0 x a.1) in
      let c = w.cores x.sender in
      let me : c.me ≡ x.sender = (h.rings).me x.sender in
      let all = in-each (λ (v : TokenVisit A). Each (λ (x : Message A). IsIn x c.held)
      (numbered v.received.ring c.me v.received.seq v.fresh)) b.turn c.turns ((r.local x.sender).sent) b.there in
      let mine : IsIn x c.held = in-each (λ (x : Message A). IsIn x c.held) x
      (numbered b.turn.received.ring c.me b.turn.received.seq b.turn.fresh) all
      (subst (λ q. IsIn x (numbered b.turn.received.ring q b.turn.received.seq b.turn.fresh)) (sym me) b.numbered_there) in
      (subst (λ q. IsIn x (w.cores q).held) s mine, a.2)

  -- a held number is at least 1
  pub positive : (i : ℕ) (x : Message A) → IsIn x (w.cores i).held → 1 ≤ x.number
  positive i x there =
      let b = numbered_by w.cores w.frames h x (genuine i x there) in
      let above = (numbered_in b.turn.received.ring x.sender b.turn.received.seq b.turn.fresh x b.numbered_there).above in
      omega (arith, above)

  -- a message held at a change is delivered, if it is below the gap or a transitional member sent it
  pub delivered_at : (i : ℕ) (next old : Configuration) → HasChanged (w.cores i) next old → (x : Message A) → IsIn x (w.cores i).held → x.ring ≡ old.ring →
      is_user x.payload ≡ true → (x.number < gap (plan_into (w.cores i) next old)) ⊎ (has (plan_into (w.cores i) next old).transitional_members x.sender ≡ true) →
      IsIn x (delivered_in (regular_stage (w.cores i) old) ++ rest_messages (plan_into (w.cores i) next old) (w.cores i).held)
  delivered_at i next old a x there ring u side =
      let c = w.cores i in
      let p = plan_into c next old in
      let q = a.plan in
      let held : holds c.held old.ring x.number ≡ true = subst (λ (t : RingId). holds c.held t x.number ≡ true) ring (holds_in c.held x there) in
      let f = holds-found c.held old.ring x.number held in
      let g = found_as c.held old.ring x.number f.0 f.1 in
      let same : f.0 ≡ x = same_held i i f.0 x g.there there (g.ring_is ∙ sym ring) g.number_is in
      let is : found c.held old.ring x.number ≡ Some x = f.1 ∙ ap Some same in
      let known = q.within x.number held in
      let low = positive i x there in
      elim (cases_lt (safe p) x.number) [
        | inl above ↦ in-right x (delivered_in (regular_stage c old)) (rest_messages p c.held) (in_rest p c.held q.reach q.sound x is u above known side)
        | inr within ↦
            in-left x (delivered_in (regular_stage c old)) (rest_messages p c.held)
            (subst (λ (xs : List (Message A)). IsIn x xs) (sym (regular_is i old))
            (in_heard (found c.held old.ring) (numbers_from 1 (mark c old.ring)) x.number x
            (in-numbers 1 (mark c old.ring) x.number low
            (let m : mark c old.ring ≡ safe p = q.marked in omega (arith, within, m))) is u))
      ]

  own_delivered : (i : ℕ) (next old : Configuration) → HasChanged (w.cores i) next old → (x : Message A)
      → IsIn x (w.cores i).held → x.ring ≡ old.ring → x.sender ≡ i →
      is_user x.payload ≡ true → IsIn x (delivered_in (regular_stage (w.cores i) old) ++ rest_messages (plan_into (w.cores i) next old) (w.cores i).held)
  own_delivered i next old a x there ring s u =
      let me : has (plan_into (w.cores i) next old).transitional_members x.sender ≡ true =
      subst (λ k. has (plan_into (w.cores i) next old).transitional_members k ≡ true) ((h.rings).me i ∙ sym s) (a.plan).transitional_member in
      delivered_at i next old a x there ring u (inr me)

-- In every run

module _ {A : Type 0} (n : ℕ) (events : List (RingEvent A)) where
  abbrev w : World A
  w = run (unformed n) events

  pub r : Recovered w.cores w.frames
  r = all_recovered n events

  older : (i : ℕ) → List Configuration
  older i = ((r.local i).ordered).older

  pub stages_are : (i : ℕ) → stages_in w i ≡ stages_tale (w.cores i) (w.cores i).installed ((r.local i).ordered).older
  stages_are i = ap stages_of (lives_are n events i ∙ tale_is (w.cores i) (r.local i).ordered)

  pub went_through : (i : ℕ) → HaveChanged (w.cores i) (w.cores i).installed ((r.local i).ordered).older
  went_through i = subst (AllChanged (w.cores i)) ((r.local i).ordered).newest (r.changed i)

  pub among : (i : ℕ) (x : Configuration) → IsIn x ((w.cores i).installed ∷ ((r.local i).ordered).older) → IsIn x (w.cores i).installs
  among i x j = subst (λ xs. IsIn x xs) (sym ((r.local i).ordered).newest) j

  pub change_is : (i : ℕ) (a : Change A) → IsIn a (changes_in w i) → IsChangeOf (w.cores i) a
  change_is i a j =
      let c = w.cores i in
      let o = (r.local i).ordered in
      let there : IsIn a (changes_tale c c.installed o.older) = subst (λ (xs : List (Change A)). IsIn a xs)
      (ap changes_of (stages_are i) ∙ changes_are c c.installed o.older) j in
      change_in c c.installed o.older (among i) (went_through i) a there

  pub deliver_alike : DeliversAlike w
  deliver_alike i j ni nj a b ka kb e f = alike w r i j a b (change_is i a ka) (change_is j b kb) e f

  pub deliver_own : DeliversOwn w
  deliver_own i ni c k x there s u =
      let a = change_is i c k in
      let ring : c.old.ring ≡ a.old.ring = ap (λ (z : Change A). z.old.ring) a.is in
      let own = own_held w r i c.old.ring x there s in
      subst (λ (z : Change A). IsIn x (delivered_by z)) (sym a.is) (own_delivered w r i a.next a.old a.changed x own.0 (own.1 ∙ ring) s u)

  -- the regular configurations of a life are the installed rings
  pub installs_are : (i : ℕ) → regulars_of (stages_in w i) ≡ (w.cores i).installs
  installs_are i =
      let o = (r.local i).ordered in
      ap regulars_of (stages_are i) ∙ regulars_are (w.cores i) (w.cores i).installed o.older ∙ sym o.newest

  installed_there : (i : ℕ) (x : Configuration) → IsIn x (regulars_of (stages_in w i)) → IsIn x (w.cores i).installs
  installed_there i x k = subst (λ xs. IsIn x xs) (installs_are i) k

  took_part : (i : ℕ) (at : Configuration) → IsIn at (regulars_of (stages_in w i)) → IsIn at (w.cores i).rings
  took_part i at k = (r.local i).among at (installed_there i at k)

  are_shared : (i : ℕ) → IsNode w i → (at : Configuration) → IsIn at (regulars_of (stages_in w i)) → IsShared w at
  are_shared i ni at k =
      let there = installed_there i at k in
      record {
        same = λ j nj b m e. one_configuration w r i j at b there (installed_there j b m) e;
        taken = λ j nj b m e. one_taken w r i j at b (took_part i at k) m e;
        group = λ q m. member_in n events i ni at (took_part i at k) q ((elements_members at.members q).0 (in-contains (elements at.members) q m)).1;
      }

  -- a transitional member of a change that the core made
  mate_goes : (i : ℕ) (c : Change A) → IsChangeOf (w.cores i) c → (q : ℕ) → IsIn q (elements c.transitional_members) → GoesOn w c q
  mate_goes i c a q m =
      let received = mate_came n events i a.next a.old a.changed q (subst (λ (z : Change A). IsIn q (elements z.transitional_members)) a.is m) in
      let there : IsIn a.old (w.cores q).installs =
      subst (λ (x : Configuration). IsIn x (w.cores q).installs)
      (one_configuration w r q i (record { ring = a.old.ring; members = (received.from).0 }) a.old (received.from).1 a.old_in refl) (received.from).1 in
      let me : (w.cores q).me ≡ q = (((r.all).all).rings).me q in
      let goes : GoesOn w (change_of (w.cores i) a.next a.old) q = record {
        leaving = subst (λ p. has (a.old).members p ≡ true) me ((r.local q).member a.old ((r.local q).among a.old there));
        entering = received.entering;
        through = subst (λ xs. IsIn a.old xs) (sym (installs_are q)) there;
        straight = λ b k. received.beside b (installed_there q b k);
      } in
      subst (λ (z : Change A). GoesOn w z q) (sym a.is) goes

  goer_is_mate : (i : ℕ) → 1 ≤ i → (c : Change A) → IsChangeOf (w.cores i) c → (q : ℕ) → IsIn q (elements c.new.members) → GoesOn w c q →
      has c.transitional_members q ≡ true
  goer_is_mate i low c a q m g =
      let goes : GoesOn w (change_of (w.cores i) a.next a.old) q = subst (λ (z : Change A). GoesOn w z q) a.is g in
      subst (λ (z : Change A). has z.transitional_members q ≡ true) (sym a.is)
      (came_mate n events i a.next a.old a.changed low q (subst (λ (z : Change A). IsIn q (elements z.new.members)) a.is m)
      (installed_there q a.old goes.through) (λ b k. goes.straight b (subst (λ xs. IsIn b xs) (sym (installs_are q)) k)))

  is_node-low : (i : ℕ) → IsNode w i → 1 ≤ i
  is_node-low i ni = leb-true 1 i (and_parts (nat_le 1 i) (nat_le i w.total) ni).0

  pub have_configurations : (i : ℕ) → IsNode w i → HasConfigurations w i
  have_configurations i ni =
      let c = w.cores i in
      let o = (r.local i).ordered in
      let tale_stages = stages_tale c c.installed o.older in
      let me : c.me ≡ i = ((((r.all).all)).rings).me i in
      record {
        told = all_well_told n events i;
        own = λ s k. subst (λ q. has (members_in s) q ≡ true) me
            (stage_own c c.installed o.older (λ x j. (r.local i).member x ((r.local i).among x (among i x j)))
            (went_through i) s (subst (λ (xs : List (Stage A)). IsIn s xs) (stages_are i) k));
        alternating = ap alternate (stages_are i) ∙ alternates c c.installed o.older;
        newest = ap ends_in_regular (stages_are i);
        rising = ap (all_pairs is_above) (ap regulars_of (stages_are i) ∙ regulars_are c c.installed o.older) ∙ pairs_fall (c.installed ∷ o.older) o.falls;
        took_part = took_part i;
        shared = are_shared i ni;
        transitional_members = λ c k q m. mate_goes i c (change_is i c k) q m;
        all_transitional_members = λ c k q m g. goer_is_mate i (is_node-low i ni) c (change_is i c k) q m g;
      }
