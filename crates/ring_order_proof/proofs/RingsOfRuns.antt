-- The facts about a ring in every run of ring cores: its members, what each received up to its front, and who received what one
-- of them knows as safe.
use Rattle.std.proofs.Common.{◌≡◌, ℕ, ◌+◌, ◌-◌, ◌^◌, ◌<◌, ◌≤◌, true, ◌⊎◌, inl, inr, List, [], ◌∷◌, take, Option, Some, None, refl, ap, sym, ◌∙◌, subst, arith}
use Rattle.std.specs.Prelude.{filter, filter_map, if◌then◌else◌}
use Rattle.std.specs.List.{AllByRecursion as Each, cons_option}
use Rattle.std.proofs.lemmas.Bool.{cond_both, cond-false, cases_Bool, both_ways}
use Rattle.ring_base.specs.Numbers.{numbers_from}
use Rattle.ring_base.specs.Processors.{IsProc, IsMember}
use Rattle.ring_base.specs.Rings.{same_ring}
use Rattle.ring_base.specs.declared.ring_id.RingId.{RingId}
use Rattle.ring_payload.specs.PayloadKinds.{is_user}
use Rattle.ring_wire.specs.declared.message.Message.{Message}
use Rattle.ring_core_spec.specs.Windows.{found}
use Rattle.ring_base.proofs.SameRing.{ring_same, same-self}
use Rattle.ring_core_spec.specs.Tokens.{TokenVisit, IsSafeIn}
use Rattle.ring_core_spec.specs.Commits.{Configuration}
use Rattle.ring_core_spec.specs.State.{Core}
use Rattle.ring_core_spec.specs.Views.{front, mark}
use Rattle.ring_core_spec.specs.Giving.{user_messages_between}
use Rattle.ring_core_proof.specs.FactWords.{IsIn}
use Rattle.ring_core_proof.specs.declared.event.RingEvent.{RingEvent}
use Rattle.ring_core_proof.specs.Worlds.{World, is_node, run, unformed}
use Rattle.ring_core_proof.proofs.WithinWindow.{mark_below}
use Rattle.ring_core_proof.proofs.InLists.{in-each}
use Rattle.ring_synchrony_proof.specs.Chains.{IsRingOf, MarksAreSafe}
use Rattle.ring_synchrony_proof.proofs.Chains.{AreRings, one_members, unformed_marks}
use Rattle.ring_synchrony_proof.proofs.Quantified.{numbers_in}
use Rattle.ring_synchrony_proof.proofs.UserMessages.{found_as}
use Rattle.ring_synchrony_proof.proofs.Recovering.{Recovered, all_recovered}
use Rattle.ring_synchrony_proof.proofs.Installed.{all_orderly, all_ready, heard_installed}
use Rattle.ring_log.specs.EpochHistories.{messages_upto}
use Rattle.ring_order_proof.proofs.Numbering.{users_in, upto_taken}
use Rattle.ring_order_proof.proofs.RunTexts.{whole, complete_exchange_from, heard_is, numbered_by_sender}
use Rattle.ring_core_proof.proofs.MembersOfRings.{StandsAs, AllStand, IsWithin, all_stand}

pub record HasInstalled {A : Type 0} (c : Core A) (ring : RingId) : Type 0 where
  pub at : Configuration
  pub there : IsIn at c.installs
  pub ring_is : at.ring ≡ ring

-- the ring is one of these
abbrev pub IsAmong : RingId → List Configuration → Type 0
IsAmong ring rings = (members : ℕ) × IsIn (record { ring = ring; members = members }) rings

pub record IsWhole {A : Type 0} (w : World A) : Type 0 where
  pub recovered : Recovered w.cores w.frames
  pub epochs_with_mark : MarksAreSafe w.cores
  -- a processor that holds a user message within its front has installed the ring
  pub installed : (p q : ℕ) (x : Message A) → IsIn x (w.cores p).held → is_user x.payload ≡ true → x.number ≤ front (w.cores q) x.ring →
      HasInstalled (w.cores q) x.ring
  pub stand : AllStand w
  -- a processor that visits a ring's token takes part in the ring
  pub took : (p : ℕ) → Each (λ (v : TokenVisit A). IsAmong v.received.ring (w.cores p).rings) (w.cores p).turns

pub all_whole : {A : Type 0} → (n : ℕ) (events : List (RingEvent A)) → IsWhole (run (unformed n) events)
all_whole {A} n events =
    let w : World A = run (unformed n) events in
    record {
      recovered = all_recovered n events;
      epochs_with_mark = unformed_marks n events;
      installed = λ p q x held user within.
          let r = heard_installed w.cores w.frames (all_orderly n events) (all_ready n events) p q x held user within in
          record { at = r.0; there = r.1; ring_is = r.2 };
      stand = all_stand n events;
      took = λ p. ((((all_orderly n events).orderly p).local).facts).turns;
    }

-- The members of a ring: those with which its representative took part in it

first_members : RingId → List Configuration → ℕ
first_members ring [] = 0
first_members ring (x ∷ xs) = if same_ring x.ring ring then x.members else first_members ring xs

first_is : (ring : RingId) (xs : List Configuration) (m : ℕ) → IsIn (record { ring = ring; members = m }) xs →
    IsIn (record { ring = ring; members = first_members ring xs }) xs
unfolding first_members
first_is ring [] m i = absurd i
first_is ring (x ∷ xs) m i =
    cond_both (same_ring x.ring ring) x.members (first_members ring xs) (λ (n : ℕ). IsIn (record { ring = ring; members = n }) (x ∷ xs))
    (λ e. inl (ap (λ (r : RingId). record { ring = r; members = x.members }) (sym (ring_same x.ring ring e))))
    (λ e. elim (i) [
      | inl same ↦
          let here : same_ring x.ring ring ≡ true =
          subst (λ (r : RingId). same_ring r ring ≡ true) (ap (λ (z : Configuration). z.ring) same) (same-self ring) in
          absurd (both_ways (same_ring x.ring ring) e here)
      | inr j ↦ inr (first_is ring xs m j)
    ])

pub members_of : {A : Type 0} → (ℕ → Core A) → RingId → ℕ
members_of cores ring = first_members ring (cores ring.rep).rings

pub members_are : {A : Type 0} → (cores : ℕ → Core A) → AreRings cores → (ring : RingId) (m : ℕ) → IsRingOf cores ring m → m ≡ members_of cores ring
unfolding members_of
members_are cores are ring m h = one_members cores are ring m (members_of cores ring) h (first_is ring (cores ring.rep).rings m h)

-- User messages found by number: none, or there is a first one

abbrev users_found : {A : Type 0} → (ℕ → Option (Message A)) → List ℕ → List (Message A)
users_found {A} get ns = filter (λ (x : Message A). is_user x.payload) (filter_map get ns)

record IsFoundUser {A : Type 0} (get : ℕ → Option (Message A)) (ns : List ℕ) : Type 0 where
  pub number : ℕ
  pub message : Message A
  pub found_there : get number ≡ Some message
  pub user : is_user message.payload ≡ true
  pub among : IsIn number ns

later_user : {A : Type 0} → (get : ℕ → Option (Message A)) (n : ℕ) (ns : List ℕ) → IsFoundUser get ns → IsFoundUser get (n ∷ ns)
later_user get n ns f = record { number = f.number; message = f.message; found_there = f.found_there; user = f.user; among = inr f.among }

first_user : {A : Type 0} → (get : ℕ → Option (Message A)) (ns : List ℕ) → (users_found get ns ≡ []) ⊎ IsFoundUser get ns
first_user get [] = inl refl
first_user {A} get (n ∷ ns) = by (get n) refl (first_user get ns)
  where
    more : List (Message A)
    more = filter_map get ns

    by : (o : Option (Message A)) → get n ≡ o → (users_found get ns ≡ []) ⊎ IsFoundUser get ns →
        (filter (λ (x : Message A). is_user x.payload) (cons_option o more) ≡ []) ⊎ IsFoundUser get (n ∷ ns)
    by None e (inl none) = inl none
    by None e (inr some) = inr (later_user get n ns some)
    by (Some x) e rest = elim (cases_Bool (is_user x.payload)) [
      | inl user ↦ inr (record { number = n; message = x; found_there = e; user = user; among = inl refl })
      | inr other ↦ elim (rest) [
        | inl none ↦ inl (cond-false (is_user x.payload) (x ∷ users_found get ns) (users_found get ns) other ∙ none)
        | inr some ↦ inr (later_user get n ns some)
      ]
    ]

module _ {A : Type 0} (w : World A) (k : IsWhole w) where
  abbrev pub are_rings : AreRings w.cores
  are_rings = (k.recovered.all).all.rings

  -- what is numbered in the ring up to a number
  abbrev pub numbered_upto : RingId → ℕ → List (Message A)
  numbered_upto ring n = users_in (take n (whole w k.recovered ring))

  mark_within : (p : ℕ) (ring : RingId) → mark (w.cores p) ring ≤ front (w.cores p) ring
  mark_within p ring = mark_below (w.cores p) ring (k.recovered.local p).fit

  -- what a processor knows as safe of a ring
  pub safe_is : (p : ℕ) (ring : RingId) →
      messages_upto (mark (w.cores p) ring) (user_messages_between (w.cores p) ring 0 (front (w.cores p) ring)) ≡ numbered_upto ring (mark (w.cores p) ring)
  safe_is p ring =
      let m = mark (w.cores p) ring in
      let f = front (w.cores p) ring in
      let zero : 0 + m ≡ m = omega arith in
      ap (messages_upto m) (heard_is w k.recovered p ring f (omega arith))
      ∙ ap (λ n. messages_upto n (users_in (take f (whole w k.recovered ring)))) (sym zero)
      ∙ upto_taken 0 m f (whole w k.recovered ring) (complete_exchange_from w k.recovered ring) (mark_within p ring)

  -- each of these members has installed the ring, and its front has reached the number
  abbrev pub AllReached : RingId → ℕ → ℕ → Type 0
  AllReached ring members n = (q : ℕ) → IsProc q → IsMember members q → HasInstalled (w.cores q) ring × (n ≤ front (w.cores q) ring)

  -- if every member's front has reached some user message, all of them have installed the ring
  pub reached_installed : (ring : RingId) (members n : ℕ) → IsSafeIn members (λ q. front (w.cores q) ring) n →
      (numbered_upto ring n ≡ []) ⊎ AllReached ring members n
  reached_installed ring members n safe = by (numbered_upto ring n) refl
    where
      by : (xs : List (Message A)) → numbered_upto ring n ≡ xs → (numbered_upto ring n ≡ []) ⊎ AllReached ring members n
      by [] e = inl e
      by (x ∷ xs) e = inr (λ q proc member.
          let c = w.cores q in
          let reached = safe q proc member in
          elim (first_user (found c.held ring) (numbers_from (0 + 1) (n - 0))) [
            | inl none ↦
                let nothing : x ∷ xs ≡ [] = sym e ∙ sym (heard_is w k.recovered q ring n reached) ∙ none in
                absurd (cc nothing)
            | inr some ↦
                let known_as = found_as c.held ring some.number some.message some.found_there in
                let last = (numbers_in some.number (0 + 1) (n - 0) some.among).1 in
                let number = known_as.number_is in
                let within : (some.message).number ≤ front c ring = omega (arith, reached, last, number) in
                let covered : (some.message).number ≤ front c (some.message).ring =
                subst (λ (r : RingId). (some.message).number ≤ front c r) (sym known_as.ring_is) within in
                let has = k.installed q q some.message known_as.there some.user covered in
                (record { at = has.at; there = has.there; ring_is = has.ring_is ∙ known_as.ring_is }, reached)
          ])

  -- the members of a ring in which something was numbered are processors of the group
  pub members_within : (ring : RingId) (x : Message A) → IsIn x (whole w k.recovered ring) → members_of w.cores ring < 2 ^ w.total
  members_within ring x i =
      let n = numbered_by_sender w k.recovered ring x i in
      let c = w.cores x.sender in
      let node : is_node w x.sender ≡ true = elim (cases_Bool (is_node w x.sender)) [
        | inl here ↦ here
        | inr stranger ↦
            let none : c.turns ≡ [] = subst (λ b. StandsAs b w.total c) stranger (k.stand x.sender) in
            absurd (subst (λ (ts : List (TokenVisit A)). IsIn n.turn ts) none n.taken)
      ] in
      let all : IsWithin w.total c = subst (λ b. StandsAs b w.total c) node (k.stand x.sender) in
      let taken = in-each (λ (v : TokenVisit A). IsAmong v.received.ring c.rings) n.turn c.turns (k.took x.sender) n.taken in
      let among : IsAmong ring c.rings = subst (λ (r : RingId). IsAmong r c.rings) n.ring_is taken in
      let small = in-each (λ (y : Configuration). y.members < 2 ^ w.total) (record { ring = ring; members = among.0 }) c.rings all.rings among.1 in
      subst (λ set. set < 2 ^ w.total) (members_are w.cores are_rings ring among.0 (are_rings.shared x.sender ring among.0 among.1)) small

  pub safe_reached : (p : ℕ) (ring : RingId) (members : ℕ) → IsRingOf w.cores ring members →
      (numbered_upto ring (mark (w.cores p) ring) ≡ []) ⊎ AllReached ring members (mark (w.cores p) ring)
  safe_reached p ring members known =
      let c = w.cores p in
      let m = mark c ring in
      elim (k.epochs_with_mark p ring) [
        | inl zero ↦ inl (ap (numbered_upto ring) zero)
        | inr safe ↦
            let same : safe.0 ≡ members = one_members w.cores are_rings ring safe.0 members safe.1 known in
            reached_installed ring members m (subst (λ set. IsSafeIn set (λ q. front (w.cores q) ring) m) same safe.2)
      ]
