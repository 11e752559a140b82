-- The messages that a core holds: numbers begin at 1, a number of a ring is held with one message, and what is held
-- stays held.

-- A message is taken only where its number is new, and a visit's new numbers are above the highest held.
use Rattle.std.proofs.Common.{◌≡◌, ℕ, suc, ◌+◌, ◌<◌, ◌≤◌, inl, inr, true, not, ◌&&◌, ◌==◌, List, [], ◌∷◌, ◌++◌, refl, ap, sym, ◌∙◌, subst, arith}
use Rattle.std.specs.Prelude.{nat_lt, nat_le, reverse}
use Rattle.std.specs.List.{AllByRecursion as Each}
use Rattle.std.proofs.lemmas.Bool.{cond_both, and_parts, and_from, or_left, or_right, ltb-true, eq-eqb, not-true, both_ways}
use Rattle.ring_base.specs.Numbers.{window_size}
use Rattle.ring_base.specs.Rings.{same_ring}
use Rattle.ring_base.specs.declared.ring_id.RingId.{RingId}
use Rattle.ring_base.specs.declared.state.State.{State}
use Rattle.ring_base.specs.declared.state.State.TheVariants.{Gather, Commit, Recovery, Operational, Stopped}
use Rattle.ring_base.proofs.Each.{each-weaker, each-append, each-reverse}
use Rattle.ring_payload.specs.declared.content.Payload.{Payload}
use Rattle.ring_payload.specs.declared.content.Payload.TheVariants.{Call, Wrapped, End, Head, Part, Pack, Snap}
use Rattle.ring_payload.specs.declared.content.Wrapped.{Wrapped as WrappedMessage}
use Rattle.ring_wire.specs.declared.frame.Frame.{Frame}
use Rattle.ring_wire.specs.declared.message.Message.{Message}
use Rattle.ring_core_spec.specs.Windows.{is_numbered, holds, highest, in_window, is_new}
use Rattle.ring_core_spec.proofs.Windows.{highest_covers}
use Rattle.ring_base.proofs.SameRing.{ring_same}
use Rattle.ring_core_spec.specs.Tokens.{TokenVisit, numbered}
use Rattle.ring_core_spec.specs.Recoveries.{inner_if_new, inner_messages, inner_message}
use Rattle.ring_core_spec.specs.State.{Core, floor}
use Rattle.ring_core_spec.specs.Views.{mark}
use Rattle.ring_core_spec.specs.Transitions.{old_ring_messages}
use Rattle.ring_core_proof.specs.FactWords.{IsIn}
use Rattle.ring_core_proof.specs.Moves.{Move, Idles, Enters, Learns, Visits, Takes, Installs, core_after_move, MayTake, MayMove}
use Rattle.ring_core_proof.proofs.InLists.{in-left, in-right, in-parts, in-reverse, in-each, each-in}
use Rattle.ring_core_proof.specs.CoreInvariants.{RingsFit}

abbrev IsOne : {A : Type 0} → List (Message A) → Type 0
IsOne {A} held = (x y : Message A) → IsIn x held → IsIn y held → x.ring ≡ y.ring → x.number ≡ y.number → x ≡ y

pub record AreFit {A : Type 0} (held : List (Message A)) : Type 0 where
  pub numbered : Each (λ (x : Message A). 1 ≤ x.number) held
  pub one : IsOne held

-- the message is new: its number is at least 1, and no message of that number is held
pub record IsNewIn {A : Type 0} (held : List (Message A)) (x : Message A) : Type 0 where
  pub low : 1 ≤ x.number
  pub other : (y : Message A) → IsIn y held → x.ring ≡ y.ring → x.number ≡ y.number → ⊥

-- new messages, one for each number, before those held
more_fit : {A : Type 0} → (xs held : List (Message A)) → IsOne xs → Each (IsNewIn held) xs → AreFit held → AreFit (xs ++ held)
more_fit {A} xs held one new f =
    let Low : Message A → Type 0 = λ x. 1 ≤ x.number in
    record {
      numbered = each-append Low xs held (each-in Low xs (λ x i. (in-each (IsNewIn held) x xs new i).low)) f.numbered;
      one = λ x y hx hy r n. elim (in-parts x xs held hx) [
        | inl a ↦ elim (in-parts y xs held hy) [
          | inl b ↦ one x y a b r n
          | inr b ↦ absurd ((in-each (IsNewIn held) x xs new a).other y b r n)
        ]
        | inr a ↦ elim (in-parts y xs held hy) [
          | inl b ↦ absurd ((in-each (IsNewIn held) y xs new b).other x a (sym r) (sym n))
          | inr b ↦ f.one x y a b r n
        ]
      ];
    }

one_alone : {A : Type 0} → (x : Message A) → IsOne (x ∷ [])
one_alone x y z (inl a) (inl b) r n = a ∙ sym b
one_alone x y z (inl a) (inr b) r n = absurd b
one_alone x y z (inr a) (inl b) r n = absurd a
one_alone x y z (inr a) (inr b) r n = absurd a

-- a held message is found under its number
pub holds_in : {A : Type 0} → (held : List (Message A)) (x : Message A) → IsIn x held → holds held x.ring x.number ≡ true
holds_in [] x i = absurd i
holds_in {A} (y ∷ held) x (inl e) =
    let r = x.ring in
    let ring : same_ring r r ≡ true = and_from (r.seq == r.seq) (r.rep == r.rep) (eq-eqb r.seq r.seq refl) (eq-eqb r.rep r.rep refl) in
    let mine : is_numbered x.ring x.number x ≡ true = and_from (same_ring x.ring x.ring) (x.number == x.number) ring (eq-eqb x.number x.number refl) in
    or_left (is_numbered x.ring x.number y) (holds held x.ring x.number) (subst (λ (z : Message A). is_numbered x.ring x.number z ≡ true) e mine)
holds_in (y ∷ held) x (inr i) = or_right (is_numbered x.ring x.number y) (holds held x.ring x.number) (holds_in held x i)

held_same : {A : Type 0} → (held : List (Message A)) (ring : RingId) (n : ℕ) (y : Message A) → IsIn y held → ring ≡ y.ring → n ≡ y.number →
    holds held ring n ≡ true
held_same held ring n y i r k = subst (λ m. holds held ring m ≡ true) (sym k) (subst (λ q. holds held q y.number ≡ true) (sym r) (holds_in held y i))

-- Taking

new_number : {A : Type 0} → (held : List (Message A)) (m : ℕ) (ring : RingId) (x : Message A) → x.ring ≡ ring → is_new held m ring x.number ≡ true →
    IsNewIn held x
new_number held m ring x e h =
    let p = and_parts (in_window m x.number) (not (holds held ring x.number)) h in
    let low : m < x.number = ltb-true m x.number (and_parts (nat_lt m x.number) (nat_le x.number (m + window_size)) p.0).0 in
    record {
      low = omega arith;
      other = λ y i r n. both_ways (holds held ring x.number) (not-true (holds held ring x.number) p.1) (held_same held ring x.number y i (sym e ∙ r) n);
    }

inner_new : {A : Type 0} → (old : RingId) (m : ℕ) (held : List (Message A)) (x : Message A) (w : WrappedMessage A) → (x.ring ≡ old → ⊥) →
    AreFit (x ∷ held) → AreFit (inner_if_new old m held w ++ x ∷ held)
inner_new {A} old m held x w other f =
    let y : Message A = inner_message w in
    cond_both (same_ring w.ring old && is_new held m old w.number) (y ∷ []) [] (λ (ys : List (Message A)). AreFit (ys ++ x ∷ held))
    (λ e. (let p = and_parts (same_ring w.ring old) (is_new held m old w.number) e in
    let ring : w.ring ≡ old = ring_same w.ring old p.0 in
    let new : IsNewIn held y = new_number held m old y ring p.1 in
    let after : IsNewIn (x ∷ held) y = record {
      low = new.low;
      other = λ z i r n. elim i [ inl a ↦ other (ap (λ (v : Message A). v.ring) (sym a) ∙ sym r ∙ ring) | inr b ↦ new.other z b r n ];
    } in
    more_fit (y ∷ []) (x ∷ held) (one_alone y) (after, tt) f))
    (λ e. f)

unwrapped_new : {A : Type 0} → (old : RingId) (m : ℕ) (held : List (Message A)) (x : Message A) (p : Payload A) → (x.ring ≡ old → ⊥) →
    AreFit (x ∷ held) → AreFit (inner_messages old m held p ++ x ∷ held)
unwrapped_new old m held x (Wrapped w) other f = inner_new old m held x w other f
unwrapped_new old m held x (Call call) other f = f
unwrapped_new old m held x End other f = f
unwrapped_new old m held x (Head head) other f = f
unwrapped_new old m held x (Part part) other f = f
unwrapped_new old m held x (Pack pack) other f = f
unwrapped_new old m held x (Snap snap) other f = f

gives_new : {A : Type 0} → (s : State) (c : Core A) (x : Message A) → (s ≡ Recovery → x.ring ≡ c.installed.ring → ⊥) →
    AreFit (x ∷ c.held) → AreFit (old_ring_messages s c x ++ x ∷ c.held)
gives_new Recovery c x other f = unwrapped_new c.installed.ring (mark c c.installed.ring) c.held x x.payload (other refl) f
gives_new Gather c x other f = f
gives_new Commit c x other f = f
gives_new Operational c x other f = f
gives_new Stopped c x other f = f

-- in Recovery the message is of the running ring
not_old : {A : Type 0} → (received : Frame A → Type 0) (c : Core A) (x : Message A) → RingsFit c → MayTake received c x → c.state ≡ Recovery →
    x.ring ≡ c.installed.ring → ⊥
not_old received c x f h s e =
    let older : c.installed.ring.seq < floor c = f.changing (inr s) in
    elim (h.ring) [
      | inl r ↦ (let same : c.installed.ring.seq ≡ floor c = ap (λ (q : RingId). q.seq) (sym e ∙ r.ring) in omega arith)
      | inr r ↦ (let q : Recovery ≡ Gather = sym s ∙ r.state in let n : ⊥ = cc in n)
    ]

-- Visiting

abbrev IsAbove : {A : Type 0} → RingId → ℕ → Message A → Type 0
IsAbove ring seq x = (x.ring ≡ ring) × (seq < x.number)

numbered_above : {A : Type 0} → (ring : RingId) (me seq from : ℕ) (ps : List (Payload A)) → from ≤ seq → Each (IsAbove ring from) (numbered ring me seq ps)
numbered_above ring me seq from [] l = tt
numbered_above ring me seq from (p ∷ ps) l = ((refl, omega arith), numbered_above ring me (suc seq) from ps (omega arith))

later_above : {A : Type 0} → (ring : RingId) (me seq : ℕ) (ps : List (Payload A)) (x : Message A) → IsIn x (numbered ring me seq ps) → seq < x.number
later_above ring me seq ps x i = (in-each (IsAbove ring seq) x (numbered ring me seq ps) (numbered_above ring me seq seq ps (omega arith)) i).1

numbered_one : {A : Type 0} → (ring : RingId) (me seq : ℕ) (ps : List (Payload A)) → IsOne (numbered ring me seq ps)
numbered_one ring me seq [] x y hx hy r n = absurd hx
numbered_one ring me seq (p ∷ ps) x y (inl a) (inl b) r n = a ∙ sym b
numbered_one {A} ring me seq (p ∷ ps) x y (inl a) (inr b) r n =
    absurd (let above : suc seq < y.number = later_above ring me (suc seq) ps y b in
    let here : x.number ≡ suc seq = ap (λ (z : Message A). z.number) a in omega arith)
numbered_one {A} ring me seq (p ∷ ps) x y (inr a) (inl b) r n =
    absurd (let above : suc seq < x.number = later_above ring me (suc seq) ps x a in
    let here : y.number ≡ suc seq = ap (λ (z : Message A). z.number) b in omega arith)
numbered_one ring me seq (p ∷ ps) x y (inr a) (inr b) r n = numbered_one ring me (suc seq) ps x y a b r n

-- an item of a reversed list is an item of the list
in_reverse : {X : Type 0} (x : X) (xs : List X) → IsIn x (reverse xs) → IsIn x xs
in_reverse {X} x xs i = let P : X → Type 0 = λ y. IsIn y xs in in-each P x (reverse xs) (each-reverse P xs (each-in P xs (λ y k. k))) i

visited_fit : {A : Type 0} → (held : List (Message A)) (ring : RingId) (me seq : ℕ) (ps : List (Payload A)) → highest held ring ≤ seq → AreFit held →
    AreFit (reverse (numbered ring me seq ps) ++ held)
visited_fit {A} held ring me seq ps top f =
    let new = numbered ring me seq ps in
    let above : Each (IsAbove ring seq) new = numbered_above ring me seq seq ps (omega arith) in
    let fresh : Each (IsNewIn held) (reverse new) =
    each-in (IsNewIn held) (reverse new) (λ x i. (let a = in-each (IsAbove ring seq) x new above (in_reverse x new i) in
    let high : seq < x.number = a.1 in
    let none : (y : Message A) → IsIn y held → x.ring ≡ y.ring → x.number ≡ y.number → ⊥ =
    λ y k r n. (let there = held_same held ring x.number y k (sym a.0 ∙ r) n in
    let covered : x.number ≤ highest held ring = highest_covers held ring x.number there in omega arith) in
    record { low = omega arith; other = none })) in
    more_fit (reverse new) held (λ x y a b r n. numbered_one ring me seq ps x y (in_reverse x new a) (in_reverse y new b) r n) fresh f

-- Moves

pub moved_fit : {A : Type 0} → (received : Frame A → Type 0) (c : Core A) (m : Move A) → MayMove received c m → RingsFit c → AreFit c.held → AreFit (core_after_move c m).held
moved_fit received c (Takes x) h rings f =
    gives_new c.state c x (λ s e. not_old received c x rings h s e)
    (more_fit (x ∷ []) c.held (one_alone x) (new_number c.held (mark c x.ring) x.ring x refl h.new, tt) f)
moved_fit received c (Visits t fresh requests again queue) h rings f = visited_fit c.held t.ring c.me t.seq fresh h.ahead f
moved_fit received c (Idles state gathering last_sent queue sends) h rings f = f
moved_fit received c (Enters k) h rings f = f
moved_fit received c (Learns k) h rings f = f
moved_fit received c Installs h rings f = f

-- The messages that the core numbered

abbrev pub AreHeldOf : {A : Type 0} → ℕ → List (Message A) → List (TokenVisit A) → Type 0
AreHeldOf me held turns =
    Each (λ (v : TokenVisit _). Each (λ (x : Message _). IsIn x held) (numbered v.received.ring me v.received.seq v.fresh)) turns

still_held : {A : Type 0} → (me : ℕ) (xs held : List (Message A)) (turns : List (TokenVisit A)) → AreHeldOf me held turns → AreHeldOf me (xs ++ held) turns
still_held {A} me xs held turns h =
    each-weaker _ _ (λ (v : TokenVisit A) k. each-weaker (λ (x : Message A). IsIn x held) (λ (x : Message A). IsIn x (xs ++ held)) (λ x i. in-right x xs held i)
    (numbered v.received.ring me v.received.seq v.fresh) k) turns h

pub moved_own : {A : Type 0} → (c : Core A) (m : Move A) → AreHeldOf c.me c.held c.turns → AreHeldOf (core_after_move c m).me (core_after_move c m).held (core_after_move c m).turns
moved_own {A} c (Visits t fresh requests again queue) h =
    let new = numbered t.ring c.me t.seq fresh in
    let held : Each (λ (x : Message A). IsIn x (reverse new ++ c.held)) new = each-in _ new (λ x i. in-left x (reverse new) c.held (in-reverse x new i)) in
    (held, still_held c.me (reverse new) c.held c.turns h)
moved_own c (Takes x) h = still_held c.me (old_ring_messages c.state c x) (x ∷ c.held) c.turns (still_held c.me (x ∷ []) c.held c.turns h)
moved_own c (Idles state gathering last_sent queue sends) h = h
moved_own c (Enters k) h = h
moved_own c (Learns k) h = h
moved_own c Installs h = h

-- each move keeps what is held
pub held_stays : {A : Type 0} → (c : Core A) (m : Move A) (x : Message A) → IsIn x c.held → IsIn x (core_after_move c m).held
held_stays c (Idles state gathering last_sent queue sends) x i = i
held_stays c (Enters k) x i = i
held_stays c (Learns k) x i = i
held_stays c (Visits t fresh requests again queue) x i = in-right x (reverse (numbered t.ring c.me t.seq fresh)) c.held i
held_stays c (Takes y) x i = in-right x (old_ring_messages c.state c y) (y ∷ c.held) (inr i)
held_stays c Installs x i = i
