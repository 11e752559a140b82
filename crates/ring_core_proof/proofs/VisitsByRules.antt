-- Each visit of a core follows the rules, and its front has only grown since.
use Rattle.std.proofs.Common.{◌≡◌, ℕ, suc, ◌+◌, ◌≤◌, true, ◌==◌, List, [], ◌∷◌, ◌++◌, length, refl, arith, inl, inr}
use Rattle.std.specs.Prelude.{reverse}
use Rattle.std.specs.List.{AllByRecursion as Each}
use Rattle.std.proofs.lemmas.Bool.{cases_lt, and_parts, or_cases, or_left, or_right, eqb-true, false≢true}
use Rattle.ring_base.specs.Rings.{same_ring}
use Rattle.ring_base.specs.declared.ring_id.RingId.{RingId}
use Rattle.ring_base.proofs.Each.{each-reverse}
use Rattle.ring_payload.specs.declared.content.Payload.{Payload}
use Rattle.ring_wire.specs.declared.frame.Frame.{Frame}
use Rattle.ring_wire.specs.declared.message.Message.{Message}
use Rattle.ring_wire.specs.declared.token.Token.{Token}
use Rattle.ring_core_spec.specs.Windows.{is_numbered, holds, highest, front_of}
use Rattle.ring_core_spec.proofs.Windows.{front_is, highest_covers}
use Rattle.ring_core_spec.specs.Tokens.{TokenVisit, numbered}
use Rattle.ring_core_spec.specs.declared.input.Input.{Input}
use Rattle.ring_core_spec.specs.State.{Core, opening}
use Rattle.ring_core_spec.specs.Transitions.{old_ring_messages}
use Rattle.ring_core_spec.specs.Stepping.{after_inputs}
use Rattle.ring_core_proof.specs.LawConditions.{AreTurnsOf}
use Rattle.ring_core_proof.specs.Moves.{Move, Idles, Enters, Learns, Visits, Takes, Installs, held_in, turn_with, core_after_move, MayMove}
use Rattle.ring_core_proof.proofs.KeptByMoves.{IsKeptByMoves, always}
use Rattle.ring_core_proof.proofs.WithinWindow.{front-append}

-- where no number above one is held, the front is at most that one
front_below : {A : Type 0} → (held : List (Message A)) (ring : RingId) (seq : ℕ) → ((n : ℕ) → holds held ring n ≡ true → n ≤ seq) → front_of held ring ≤ seq
front_below held ring seq h =
    elim (cases_lt seq (front_of held ring)) [
      | inl l ↦ h (front_of held ring) ((front_is held ring).below _ (omega arith) (omega arith))
      | inr l ↦ l
    ]

-- new messages have the numbers after `seq`
numbered_within : {A : Type 0} → (ring : RingId) (me seq bound : ℕ) (ps : List (Payload A)) → seq + length ps ≤ bound →
    Each (λ (x : Message A). x.number ≤ bound) (numbered ring me seq ps)
numbered_within ring me seq bound [] h = tt
numbered_within ring me seq bound (p ∷ ps) h = (omega arith, numbered_within ring me (suc seq) bound ps (omega arith))

-- where no message is past a number, none is held past it
held_within : {A : Type 0} → (xs : List (Message A)) (r : RingId) (n bound : ℕ)
    → Each (λ (x : Message A). x.number ≤ bound) xs → holds xs r n ≡ true → n ≤ bound
held_within [] r n bound f h = absurd (false≢true h)
held_within (x ∷ xs) r n bound f h =
    elim (or_cases (is_numbered r n x) (holds xs r n) h) [
      | inl e ↦ (let q : x.number ≡ n = eqb-true x.number n
          (and_parts (same_ring x.ring r) (x.number == n) e).1 in let k : x.number ≤ bound = f.0 in omega arith)
      | inr e ↦ held_within xs r n bound f.1 e
    ]

held-append : {A : Type 0} → (xs ys : List (Message A)) (r : RingId) (n bound : ℕ) → (holds xs r n ≡ true → n ≤ bound)
    → (holds ys r n ≡ true → n ≤ bound) → holds (xs ++ ys) r n ≡ true → n ≤ bound
held-append [] ys r n bound f g h = g h
held-append (x ∷ xs) ys r n bound f g h =
    elim (or_cases (is_numbered r n x) (holds (xs ++ ys) r n) h) [
      | inl e ↦ f (or_left (is_numbered r n x) (holds xs r n) e)
      | inr e ↦ held-append xs ys r n bound (λ k. f (or_right (is_numbered r n x) (holds xs r n) k)) g e
    ]

pub front_within : {A : Type 0} → (c : Core A) (t : Token) (fresh : List (Payload A)) → highest c.held t.ring ≤ t.seq
    → front_of (held_in c t fresh) t.ring ≤ t.seq + length fresh
front_within c t fresh top =
    let new = numbered t.ring c.me t.seq fresh in
    let bound = t.seq + length fresh in
    let within = each-reverse (λ (x : Message _). x.number ≤ bound) new (numbered_within t.ring c.me t.seq bound fresh (omega arith)) in
    front_below (held_in c t fresh) t.ring bound (λ n k. held-append (reverse new) c.held t.ring n bound
    (λ e. held_within (reverse new) t.ring n bound within e)
    (λ e. (let q : n ≤ highest c.held t.ring = highest_covers c.held t.ring n e in omega arith)) k)

-- with more messages, the fronts of the visits are still reached
still : {A : Type 0} → (me : ℕ) (xs held : List (Message A)) (turns : List (TokenVisit A)) → AreTurnsOf me held turns → AreTurnsOf me (xs ++ held) turns
still me xs held [] h = tt
still me xs held (v ∷ turns) h =
    let i : front_of held v.received.ring ≤ front_of (xs ++ held) v.received.ring = front-append xs held v.received.ring in
    let j : v.front ≤ front_of held v.received.ring = (h.0).grown in
    (record { goes = (h.0).goes; within = (h.0).within; grown = omega arith }, still me xs held turns h.1)

abbrev pub Turned : {A : Type 0} → Core A → Type 0
Turned c = AreTurnsOf c.me c.held c.turns

visited_turned : {A : Type 0} → (c : Core A) (t : Token) (fresh : List (Payload A)) (requests : List ℕ)
    → highest c.held t.ring ≤ t.seq → Turned c → AreTurnsOf c.me (held_in c t fresh)
    (turn_with c t fresh requests ∷ c.turns)
visited_turned c t fresh requests a h =
    (record { goes = refl; within = front_within c t fresh a; grown = omega arith }, still c.me (reverse (numbered t.ring c.me t.seq fresh)) c.held c.turns h)

took_turned : {A : Type 0} → (c : Core A) (x : Message A) → Turned c → AreTurnsOf c.me (old_ring_messages c.state c x ++ x ∷ c.held) c.turns
took_turned c x h = still c.me (old_ring_messages c.state c x) (x ∷ c.held) c.turns (still c.me (x ∷ []) c.held c.turns h)

pub moved_turned : {A : Type 0} → (received : Frame A → Type 0) (c : Core A) (m : Move A) → MayMove received c m → Turned c → Turned (core_after_move c m)
moved_turned received c (Visits t fresh requests again queue) h p = visited_turned c t fresh requests h.ahead p
moved_turned received c (Takes x) h p = took_turned c x p
moved_turned received c (Idles state gathering last_sent queue sends) h p = p
moved_turned received c (Enters k) h p = p
moved_turned received c (Learns k) h p = p
moved_turned received c Installs h p = p

pub turned : {A : Type 0} → IsKeptByMoves (Turned {A = A})
turned = record { moves = moved_turned }

pub all_turned : {A : Type 0} → (n me : ℕ) (inputs : List (Input A)) → Turned (after_inputs (opening n me) inputs)
all_turned n me inputs = always Turned turned (opening n me) inputs tt
