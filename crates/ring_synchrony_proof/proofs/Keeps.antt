-- What a move keeps that installs nothing: messages that are found stay found, a ring that was left stays as it is,
-- fronts and marks only rise.
use Rattle.std.proofs.Common.{◌≡◌, ℕ, ◌<◌, ◌≤◌, inl, inr, true, false, ◌&&◌, ◌==◌, List, [], ◌∷◌, ◌++◌, Some, refl, ap, sym, ◌∙◌, subst, arith}
use Rattle.std.specs.Prelude.{not, reverse}
use Rattle.std.specs.List.{AllByRecursion as Each}
use Rattle.std.proofs.lemmas.Bool.{cond_both, cond-false, and_parts, false≢true, false_from_ne_true, eqb-true}
use Rattle.ring_base.specs.Rings.{same_ring}
use Rattle.ring_base.specs.declared.ring_id.RingId.{RingId}
use Rattle.ring_base.specs.declared.state.State.{State}
use Rattle.ring_base.specs.declared.state.State.TheVariants.{Gather, Commit, Recovery, Operational, Stopped}
use Rattle.ring_base.proofs.Each.{each-weaker, each-reverse}
use Rattle.ring_payload.specs.declared.content.Payload.{Payload}
use Rattle.ring_payload.specs.declared.content.Payload.TheVariants.{Call, Wrapped, End, Head, Part, Pack, Snap}
use Rattle.ring_payload.specs.declared.content.Wrapped.{Wrapped as WrappedMessage}
use Rattle.ring_wire.specs.declared.frame.Frame.{Frame}
use Rattle.ring_wire.specs.declared.message.Message.{Message}
use Rattle.ring_wire.specs.declared.token.Token.{Token}
use Rattle.ring_core_spec.specs.Windows.{is_numbered, found, holds, highest, front_of, is_new, in_window}
use Rattle.ring_core_spec.proofs.Windows.{highest_covers, holds-found, found-holds}
use Rattle.ring_base.proofs.SameRing.{ring_same, other_ring}
use Rattle.ring_core_spec.specs.Tokens.{numbered}
use Rattle.ring_core_spec.proofs.Tokens.{safe_mark-turn, safe_mark-raise}
use Rattle.ring_core_spec.specs.Recoveries.{inner_if_new, inner_messages}
use Rattle.ring_core_spec.specs.State.{Core, floor}
use Rattle.ring_core_spec.specs.Views.{front, mark, entries_for}
use Rattle.ring_core_spec.specs.Transitions.{old_ring_messages}
use Rattle.ring_core_spec.specs.Deciding.{Transition, Ignore, Enqueue, Repeat, Announce, Invite, GiveUp, EnterGather, Agree, MergeJoin}
use Rattle.ring_core_spec.specs.Deciding.{EnterGatherAndAgree, EnterGatherAndMergeJoin, Take, Visit, Fill, Learn}
use Rattle.ring_core_proof.specs.Moves.{Move, Idles, Enters, Learns, Visits, Takes, Installs, core_after_move, turn_with, MayMove}
use Rattle.ring_core_proof.proofs.InLists.{each-in}
use Rattle.ring_core_proof.proofs.StepsAreMoves.{move_of}
use Rattle.ring_chain_proof.proofs.FactsGrow.{moved_grows}
use Rattle.ring_chain_proof.proofs.OtherRings.{IsOther, front_other, turns_other, raises_other, gives_other}
use Rattle.ring_chain_proof.proofs.OneText.{numbered_in}
use Rattle.ring_synchrony_proof.proofs.Ordered.{Ordered}

-- Messages found among more

-- none of these messages has that number of the ring
abbrev pub IsNot : {A : Type 0} → RingId → ℕ → Message A → Type 0
IsNot ring n x = is_numbered ring n x ≡ false

pub found_past : {A : Type 0} → (xs held : List (Message A)) (ring : RingId) (n : ℕ) → Each (λ (x : Message A). IsNot ring n x) xs →
    found (xs ++ held) ring n ≡ found held ring n
found_past [] held ring n h = refl
found_past (x ∷ xs) held ring n h = cond-false (is_numbered ring n x) (Some x) (found (xs ++ held) ring n) h.0 ∙ found_past xs held ring n h.1

-- no message of another ring has a number of this one
pub other_not : {A : Type 0} → (ring : RingId) (n : ℕ) (xs : List (Message A))
    → Each (λ (x : Message A). IsOther ring x) xs → Each (λ (x : Message A). IsNot ring n x) xs
other_not {A} ring n xs h = each-weaker (λ (x : Message A). IsOther ring x) (λ (x : Message A). IsNot ring n x)
    (λ x k. ap (λ b. b && (x.number == n)) (other_ring x.ring ring k)) xs h

-- a number that was new was not held
new_not : {A : Type 0} → (held : List (Message A)) (m : ℕ) (ring : RingId) (n : ℕ) (x : Message A)
    → holds held ring n ≡ true → is_new held m x.ring x.number ≡ true → IsNot ring n x
new_not {A} held m ring n x h new =
    false_from_ne_true (is_numbered ring n x) (λ e.
    let p = and_parts (same_ring x.ring ring) (x.number == n) e in
    let r : x.ring ≡ ring = ring_same x.ring ring p.0 in
    let k : x.number ≡ n = eqb-true x.number n p.1 in
    let q = (and_parts (in_window m x.number) (not (holds held x.ring x.number)) new).1 in
    let t : holds held x.ring x.number ≡ true = subst (λ (r : RingId). holds held r x.number ≡ true) (sym r)
    (subst (λ (k : ℕ). holds held ring k ≡ true) (sym k) h) in
    false≢true (ap not (sym t) ∙ q))

-- an inner message is new
abbrev pub WasNew : {A : Type 0} → List (Message A) → Message A → Type 0
WasNew held x = (m : ℕ) × (is_new held m x.ring x.number ≡ true)

inner_new : {A : Type 0} → (old : RingId) (m : ℕ) (held : List (Message A)) (w : WrappedMessage A)
    → Each (λ (x : Message A). WasNew held x) (inner_if_new old m held w)
inner_new {A} old m held w =
    cond_both (same_ring w.ring old && is_new held m old w.number) _ [] (Each (λ (x : Message A). WasNew held x))
    (λ e. (let p = and_parts (same_ring w.ring old) (is_new held m old w.number)
    e in ((m, subst (λ (r : RingId). is_new held m r w.number ≡ true) (sym (ring_same w.ring old p.0)) p.1), tt)))
    (λ e. tt)

unwrapped_new : {A : Type 0} → (old : RingId) (m : ℕ) (held : List (Message A)) (p : Payload A)
    → Each (λ (x : Message A). WasNew held x) (inner_messages old m held p)
unwrapped_new old m held (Wrapped w) = inner_new old m held w
unwrapped_new old m held (Call call) = tt
unwrapped_new old m held End = tt
unwrapped_new old m held (Head head) = tt
unwrapped_new old m held (Part part) = tt
unwrapped_new old m held (Pack pack) = tt
unwrapped_new old m held (Snap snap) = tt

pub gives_new : {A : Type 0} → (s : State) (c : Core A) (x : Message A) → Each (λ (x : Message A). WasNew c.held x) (old_ring_messages s c x)
gives_new Recovery c x = unwrapped_new c.installed.ring (mark c c.installed.ring) c.held x.payload
gives_new Gather c x = tt
gives_new Commit c x = tt
gives_new Operational c x = tt
gives_new Stopped c x = tt

pub were_not : {A : Type 0} → (held : List (Message A)) (ring : RingId) (n : ℕ) → holds held ring n ≡ true → (xs : List (Message A)) →
    Each (λ (x : Message A). WasNew held x) xs → Each (λ (x : Message A). IsNot ring n x) xs
were_not {A} held ring n h xs e = each-weaker (λ (x : Message A). WasNew held x) (λ (x : Message A). IsNot ring n x)
    (λ x w. new_not held w.0 ring n x h w.1) xs e

-- a number given in a visit is above all that is held of the ring
numbered_not : {A : Type 0} → (held : List (Message A)) (t : Token) (me : ℕ) (fresh : List (Payload A))
    → highest held t.ring ≤ t.seq → (ring : RingId) (n : ℕ) →
    holds held ring n ≡ true → Each (λ (x : Message A). IsNot ring n x) (reverse (numbered t.ring me t.seq fresh))
numbered_not {A} held t me fresh ahead ring n h =
    each-reverse (λ (x : Message A). IsNot ring n x) (numbered t.ring me t.seq fresh)
    (each-in (λ (x : Message A). IsNot ring n x) (numbered t.ring me t.seq fresh) (λ x i.
    false_from_ne_true (is_numbered ring n x) (λ e.
    let p = and_parts (same_ring x.ring ring) (x.number == n) e in
    let k : x.number ≡ n = eqb-true x.number n p.1 in
    let f = numbered_in t.ring me t.seq fresh x i in
    let r : ring ≡ t.ring = sym (ring_same x.ring ring p.0) ∙ f.ring_is in
    let top : n ≤ highest held t.ring = highest_covers held t.ring n (subst (λ (r : RingId). holds held r n ≡ true) r h) in
    let up : t.seq < x.number = f.above in
    omega (arith, top, up, k, ahead))))

-- The facts that are kept

-- all facts of a ring
pub record IsSameOf {A : Type 0} (ring : RingId) (c d : Core A) : Type 0 where
  pub found_is : (n : ℕ) → found d.held ring n ≡ found c.held ring n
  pub front_is : front d ring ≡ front c ring
  pub mark_is : mark d ring ≡ mark c ring

pub record Keeps {A : Type 0} (c d : Core A) : Type 0 where
  pub installed : d.installed ≡ c.installed
  pub installs : d.installs ≡ c.installs
  pub finds : (ring : RingId) (n : ℕ) → holds c.held ring n ≡ true → found d.held ring n ≡ found c.held ring n
  pub fronts : (ring : RingId) → front c ring ≤ front d ring
  pub marks : (ring : RingId) → mark c ring ≤ mark d ring
  -- facts of rings before the installed one
  pub left : (ring : RingId) → ring.seq < c.installed.ring.seq → IsSameOf ring c d
  -- and the reports by which it and they were installed
  pub entries : (ring : RingId) → ring.seq ≤ c.installed.ring.seq → entries_for ring d.plans ≡ entries_for ring c.plans

-- a move that isn't an installation
abbrev pub IsStill : {A : Type 0} → Move A → Type 0
IsStill (Idles state gathering last_sent queue sends) = Unit {0}
IsStill (Enters k) = Unit {0}
IsStill (Learns k) = Unit {0}
IsStill (Visits t fresh requests again queue) = Unit {0}
IsStill (Takes x) = Unit {0}
IsStill Installs = ⊥

-- a ring below the installed one is a different one
below_other : (ring other : RingId) → ring.seq < other.seq → ring ≡ other → ⊥
below_other ring other l e = (let q : ring.seq ≡ other.seq = ap (λ (r : RingId). r.seq) e in omega (arith, l, q))

pub all_same : {A : Type 0} → (ring : RingId) (c d : Core A) → d.held ≡ c.held → mark d ring ≡ mark c ring → IsSameOf ring c d
all_same {A} ring c d e m =
    record { found_is = λ n. ap (λ (xs : List (Message A)). found xs ring n) e; front_is = ap (λ (xs : List (Message A)). front_of xs ring) e; mark_is = m }

-- a visit adds no fact of another ring
pub visited_same : {A : Type 0} → (c : Core A) (t : Token) (fresh : List (Payload A)) (requests : List ℕ)
    (again : List (Message A)) (queue : List (Payload A)) (r : RingId) →
    (t.ring ≡ r → ⊥) → IsSameOf r c (core_after_move c (Visits t fresh requests again queue))
visited_same {A} c t fresh requests again queue r other =
    let new = reverse (numbered t.ring c.me t.seq fresh) in
    let others : Each (λ (x : Message A). IsOther r x) new =
    each-reverse (λ (x : Message A). IsOther r x) (numbered t.ring c.me t.seq fresh)
    (each-in (λ (x : Message A). IsOther r x) (numbered t.ring c.me t.seq fresh)
    (λ x i e. other (sym (numbered_in t.ring c.me t.seq fresh x i).ring_is ∙ e))) in
    record {
      found_is = λ n. found_past new c.held r n (other_not r n new others);
      front_is = front_other new c.held r others;
      mark_is = turns_other (turn_with c t fresh requests) c.turns c.raises r other;
    }

pub moved_keeps : {A : Type 0} → (received : Frame A → Type 0) (c : Core A) (m : Move A) → MayMove received c m → Ordered c → IsStill m → Keeps c (core_after_move c m)
moved_keeps received c (Idles state gathering last_sent queue sends) h o s =
    record {
      installed = refl;
      installs = refl;
      finds = λ r n k. refl;
      fronts = λ r. omega arith;
      marks = λ r. omega arith;
      left = λ r l. all_same r c _ refl refl;
      entries = λ r l. refl;
    }
moved_keeps received c (Enters k) h o s =
    record {
      installed = refl;
      installs = refl;
      finds = λ r n k. refl;
      fronts = λ r. omega arith;
      marks = λ r. omega arith;
      left = λ r l. all_same r c _ refl refl;
      entries = λ r l. refl;
    }
moved_keeps {A} received c (Learns k) h o s =
    record {
      installed = refl;
      installs = refl;
      finds = λ r n k. refl;
      fronts = λ r. omega arith;
      marks = λ r. safe_mark-raise _ c.turns c.raises r;
      left = λ r l. all_same r c _ refl (raises_other {A = A} _ c.turns c.raises r (λ e. below_other r c.installed.ring l (sym e)));
      entries = λ r l. (let a : c.installed.ring.seq < floor c = o.apart (inl h.state) in let b : k.ring.seq ≡ floor c = ap (λ (r : RingId). r.seq) h.ring in
          cond-false (same_ring k.ring r) k.entries (entries_for r c.plans)
          (other_ring k.ring r (λ e. (let q : k.ring.seq ≡ r.seq = ap (λ (r : RingId). r.seq) e in omega (
            arith,
            a,
            b,
            l,
            q,
          )))));
    }
moved_keeps {A} received c (Visits t fresh requests again queue) h o s =
    let new = reverse (numbered t.ring c.me t.seq fresh) in
    let other : (r : RingId) → r.seq < c.installed.ring.seq → t.ring ≡ r
    → ⊥ = λ r l e. (let a : c.installed.ring.seq ≤ floor c = o.below in let b : t.ring.seq ≡ floor c = ap
    (λ (r : RingId). r.seq) h.ring in let q : t.ring.seq ≡ r.seq = ap (λ (r : RingId). r.seq) e in omega (
      arith,
      a,
      b,
      l,
      q,
    )) in
    record {
      installed = refl;
      installs = refl;
      finds = λ r n k. found_past new c.held r n (numbered_not c.held t c.me fresh h.ahead r n k);
      fronts = (moved_grows c (Visits t fresh requests again queue)).fronts;
      marks = λ r. safe_mark-turn _ c.turns c.raises r;
      left = λ r l. visited_same c t fresh requests again queue r (other r l);
      entries = λ r l. refl;
    }
moved_keeps {A} received c (Takes x) h o s =
    let more = old_ring_messages c.state c x in
    let other : (r : RingId) → r.seq < c.installed.ring.seq → x.ring ≡ r → ⊥ =
    λ r l e. elim (h.ring) [
      | inl f ↦ (let a : c.installed.ring.seq ≤ floor c = o.below in let b : x.ring.seq ≡ floor c = ap
          (λ (r : RingId). r.seq) f.ring in let q : x.ring.seq ≡ r.seq = ap (λ (r : RingId). r.seq) e in omega (
            arith,
            a,
            b,
            l,
            q,
          ))
      | inr f ↦ below_other r c.installed.ring l (sym e ∙ f.ring)
    ] in
    let others : (r : RingId) → r.seq < c.installed.ring.seq → Each (λ (x : Message A). IsOther r x) more =
    λ r l. gives_other c.state c x r (below_other r c.installed.ring l) in
    record {
      installed = refl;
      installs = refl;
      finds = λ r n k. found_past more (x ∷ c.held) r n (were_not c.held r n k more (gives_new c.state c x))
          ∙ found_past (x ∷ []) c.held r n (new_not c.held (mark c x.ring) r n x k h.new, tt);
      fronts = (moved_grows c (Takes x)).fronts;
      marks = λ r. omega arith;
      left = λ r l. record {
        found_is = λ n. found_past more (x ∷ c.held) r n (other_not r n more (others r l))
            ∙ found_past (x ∷ []) c.held r n (other_not r n (x ∷ []) (other r l, tt));
        front_is = front_other more (x ∷ c.held) r (others r l) ∙ front_other (x ∷ []) c.held r (other r l, tt);
        mark_is = refl;
      };
      entries = λ r l. refl;
    }
moved_keeps received c Installs h o s = absurd s

-- a list of moves
same_then : {A : Type 0} → (ring : RingId) (c d e : Core A) → IsSameOf ring c d → IsSameOf ring d e → IsSameOf ring c e
same_then ring c d e a b =
    record { found_is = λ n. b.found_is n ∙ a.found_is n; front_is = b.front_is ∙ a.front_is; mark_is = b.mark_is ∙ a.mark_is }

pub keeps_then : {A : Type 0} → (c d e : Core A) → Keeps c d → Keeps d e → Keeps c e
keeps_then {A} c d e a b =
    let seq : c.installed.ring.seq ≡ d.installed.ring.seq = ap (λ p. p.ring.seq) (sym a.installed) in
    record {
      installed = b.installed ∙ a.installed;
      installs = b.installs ∙ a.installs;
      finds = λ r n h. (let f = holds-found c.held r n h in b.finds r n (found-holds d.held r n f.0 (a.finds r n h ∙ f.1)) ∙ a.finds r n h);
      fronts = λ r. (let x = a.fronts r in let y = b.fronts r in omega (arith, x, y));
      marks = λ r. (let x = a.marks r in let y = b.marks r in omega (arith, x, y));
      left = λ r l. same_then r c d e (a.left r l) (b.left r (omega (arith, l, seq)));
      entries = λ r l. b.entries r (omega (arith, l, seq)) ∙ a.entries r l;
    }

-- each transition is such a move
pub still_of : {A : Type 0} → (c : Core A) (a : Transition A) → IsStill (move_of c a)
still_of c Ignore = tt
still_of c (Enqueue p) = tt
still_of c Repeat = tt
still_of c Announce = tt
still_of c Invite = tt
still_of c GiveUp = tt
still_of c EnterGather = tt
still_of c (Agree j) = tt
still_of c (MergeJoin j) = tt
still_of c (EnterGatherAndAgree j) = tt
still_of c (EnterGatherAndMergeJoin j) = tt
still_of c (Take x) = tt
still_of c (Visit t) = tt
still_of c (Fill k) = tt
still_of c (Learn k) = tt
