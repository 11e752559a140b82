-- The visits of a ring are one list: each takes the token as the visit before it forwarded it, by the member whose
-- turn it is.

-- A token is visited only by the processor that it was sent to, and only where it is newer than all tokens that this
-- one visited. So it is the newest of all, since the visit of the next one would have been that processor's too.
use Rattle.std.proofs.Common.{◌≡◌, ℕ, ◌%◌, ◌<◌, ◌≤◌, ◌⊎◌, inl, inr, Bool, true, false, ◌==◌, cond, List, [], ◌∷◌, length, refl, ap, sym, ◌∙◌, subst}
use Rattle.std.proofs.Math.Nat.{zero-mod}
use Rattle.std.proofs.lemmas.Bool.{cond_both, eq-eqb, ne_eqb, cond-true, cond-false}
use Rattle.ring_base.proofs.Taking.{smallest_some}
use Rattle.ring_base.specs.Rings.{same_ring}
use Rattle.ring_base.specs.Processors.{only, has, at, size, next}
use Rattle.ring_base.specs.declared.ring_id.RingId.{RingId}
use Rattle.ring_payload.specs.declared.content.Payload.{Payload}
use Rattle.ring_wire.specs.declared.frame.Frame.TheVariants.{Token as TokenFrame}
use Rattle.ring_wire.specs.declared.message.Message.{Message}
use Rattle.ring_wire.specs.declared.token.Token.{Token}
use Rattle.ring_base.proofs.SameRing.{ring_same, same-self}
use Rattle.ring_core_spec.specs.Tokens.{TokenVisit, first_token, visits_in_ring, VisitBy, token_arrived, IsNextVisit, AreVisits}
use Rattle.ring_core_spec.specs.State.{Core}
use Rattle.ring_core_spec.specs.Visiting.{to_next}
use Rattle.ring_core_proof.specs.Worlds.{Transmission, with_core}
use Rattle.ring_core_proof.specs.Moves.{Move, Idles, Enters, Learns, Visits, Takes, Installs, turn_with, core_after_move, IsStart, MayVisit, MayMove, IsReceivedFrame}
use Rattle.ring_core_proof.proofs.Rises.{runs_in}
use Rattle.ring_core_proof.proofs.VisitsByRules.{Turned, moved_turned}
use Rattle.ring_chain_proof.specs.ChainWords.{Chains, IsRingOf, visits_taken_by, IsRound}
use Rattle.ring_chain_proof.proofs.GenuineFrames.{HasArrived, IsToken, AreRight, visits_with, visits_after}
use Rattle.ring_chain_proof.specs.ChainFacts.{AreChains}
use Rattle.ring_chain_proof.proofs.FactsGrow.{AllGrown, put-each, put_grows, moved_grows}
use Rattle.ring_chain_proof.proofs.Rings.{AreRings, came_right, one_members}
use Rattle.ring_base.proofs.TurnsRound.{next-turn, at-low}
use Rattle.ring_chain_proof.proofs.VisitTurns.{only-is, number-visits, first-token_arrived, AllBelow, newest}

pub round_grows : {A : Type 0} → (old new : ℕ → Core A) → AllGrown old new → (r : RingId) (vs : List (VisitBy A)) → (vs ≡ []) ⊎ IsRound old r vs →
    (vs ≡ []) ⊎ IsRound new r vs
round_grows old new g r vs (inl e) = inl e
round_grows old new g r vs (inr h) = inr (record { members = h.members; ring_of = (g r.rep).rings _ h.ring_of; some = h.some; visits_are = h.visits_are })

-- one more visit
turn_picked : {A : Type 0} → (b : Bool) (i : ℕ) (turn : TokenVisit A) (ts : List (TokenVisit A)) (vs : List (VisitBy A)) → ts ≡ visits_taken_by i vs →
    cond b (turn ∷ ts) ts ≡ visits_taken_by i (cond b (record { who = i; turn = turn } ∷ vs) vs)
turn_picked true i turn ts vs e = ap (λ us. turn ∷ us) e ∙ sym (cond-true (i == i) (turn ∷ visits_taken_by i vs) (visits_taken_by i vs) (eq-eqb i i refl))
turn_picked false i turn ts vs e = e

other_picked : {A : Type 0} → (b : Bool) (i q : ℕ) (turn : TokenVisit A) (ts : List (TokenVisit A)) (vs : List (VisitBy A)) → (q ≡ i → ⊥) → ts ≡ visits_taken_by q vs →
    ts ≡ visits_taken_by q (cond b (record { who = i; turn = turn } ∷ vs) vs)
other_picked true i q turn ts vs n e = e ∙ sym (cond-false (i == q) (turn ∷ visits_taken_by q vs) (visits_taken_by q vs) (ne_eqb i q (λ k. n (sym k))))
other_picked false i q turn ts vs n e = e

-- the member whose turn it is
pub record HasTurn {A : Type 0} (members : ℕ) (i : ℕ) (t : Token) (vs : List (VisitBy A)) : Type 0 where
  pub some : 0 < size members
  pub here : i ≡ at members (t.number % size members)
  pub token_arrived : HasArrived t.ring t vs

module _ {A : Type 0} (visits : Chains A) (cores : ℕ → Core A) (frames : List (Transmission A)) (i : ℕ) (low : 1 ≤ i)
    (right : AreRight visits cores frames) (are : AreRings cores) (chains : AreChains visits cores)
    (turned : (q : ℕ) → Turned (cores q)) where
  module _ (t : Token) (fresh : List (Payload A)) (requests : List ℕ) (again : List (Message A))
      (queue : List (Payload A)) (h : MayVisit (IsReceivedFrame frames i) (cores i) t fresh again queue) where
    pub ring_here : IsRingOf cores t.ring (cores i).running.members
    ring_here =
        let r : IsRingOf cores (cores i).running.ring (cores i).running.members = are.shared i _ _ (runs_in (cores i) (are.rising i)) in
        subst (λ r. IsRingOf cores r (cores i).running.members) (sym h.ring) r

    visits_here : AreVisits (cores i).running.members t.ring (visits t.ring)
    visits_here =
        elim (chains.rounds t.ring) [
          | inl e ↦ subst (λ (vs : List (VisitBy A)). AreVisits (cores i).running.members t.ring vs) (sym e) tt
          | inr round ↦ subst (λ m. AreVisits m t.ring (visits t.ring)) (one_members cores are t.ring round.members
              (cores i).running.members round.ring_of ring_here) round.visits_are
        ]

    starts : IsStart (cores i) t → HasTurn (cores i).running.members i t (visits t.ring)
    starts s =
        let ms = (cores i).running.members in
        let first : at ms 0 ≡ i = s.first ∙ are.me i in
        let zero : t.number % size ms ≡ 0 = ap (λ (u : Token). u.number % size ms) s.token ∙ zero-mod (size ms) in
        let same : first_token t.ring ≡ t = ap first_token h.ring ∙ sym s.token in
        record {
          some = smallest_some ms i low first;
          here = sym first ∙ ap (at ms) (sym zero);
          token_arrived = subst (λ u. HasArrived t.ring u (visits t.ring)) same (first-token_arrived t.ring (visits t.ring));
        }

    comes : IsReceivedFrame frames i (TokenFrame t) → HasTurn (cores i).running.members i t (visits t.ring)
    comes received =
        let ms = (cores i).running.members in
        let f = came_right visits cores frames i (TokenFrame t) right received in
        let token : IsToken visits cores f.1 t = f.3 in
        let same : token.members ≡ ms = one_members cores are t.ring token.members ms token.ring_of ring_here in
        let some : 0 < size token.members = token.some in
        let mine : i ≡ at token.members (t.number % size token.members) = only-is _ i
        (at-low token.members t.number some) low (subst (λ to. has to i ≡ true) token.sent_to f.2) in
        record {
          some = subst (λ m. 0 < size m) same some;
          here = mine ∙ ap (λ m. at m (t.number % size m)) same;
          token_arrived = token.token_arrived;
        }

    pub has_turn : HasTurn (cores i).running.members i t (visits t.ring)
    has_turn = elim (h.from) [ inl s ↦ starts s | inr c ↦ comes c ]

    arrives : token_arrived t.ring (visits t.ring) ≡ t
    arrives =
        newest (cores i).running.members t.ring t i (visits t.ring) has_turn.some visits_here has_turn.token_arrived has_turn.here
        (subst (λ (ts : List (TokenVisit A)). AllBelow t.number ts) (chains.turns i t.ring) h.newer)

    abbrev pub visit : VisitBy A
    visit = record { who = i; turn = turn_with (cores i) t fresh requests }

    is_next : IsNextVisit (cores i).running.members t.ring visit (visits t.ring)
    is_next =
        let ms = (cores i).running.members in
        let new = moved_turned (IsReceivedFrame frames i) (cores i) (Visits t fresh requests again queue) h (turned i) in
        let number : t.number ≡ length (visits t.ring) = ap (λ (u : Token). u.number) (sym arrives) ∙ number-visits ms t.ring (visits t.ring) visits_here in
        record {
          comes = sym arrives;
          turn = has_turn.here ∙ ap (λ n. at ms (n % size ms)) number;
          within = (new.0).within;
          goes = subst (λ me. visit.turn.forwarded ≡ Rattle.ring_core_spec.specs.Tokens.token_after me visit.turn.front
              (length fresh) visit.turn.forwarded.requests t) (are.me i) (new.0).goes;
        }

    pub visit_moved : AreChains (visits_with visits t.ring visit) (with_core cores i (core_after_move (cores i) (Visits t fresh requests again queue)))
    visit_moved =
        let d = core_after_move (cores i) (Visits t fresh requests again queue) in
        let cores' = with_core cores i d in
        let g : AllGrown cores cores' = put_grows cores i d (moved_grows (cores i) (Visits t fresh requests again queue)) in
        let here : IsRound cores' t.ring (visit ∷ visits t.ring) = record {
          members = (cores i).running.members;
          ring_of = (g t.ring.rep).rings _ ring_here;
          some = has_turn.some;
          visits_are = (is_next, visits_here);
        } in
        record {
          rounds = λ r. cond_both (same_ring t.ring r) (visit ∷ visits r) (visits r) (λ (vs : List (VisitBy A)). (vs ≡ []) ⊎ IsRound cores' r vs)
              (λ e. inr (subst (λ r. IsRound cores' r (visit ∷ visits r)) (ring_same t.ring r e) here))
              (λ e. round_grows cores cores' g r (visits r) (chains.rounds r));
          turns = put-each (λ q (x : Core A). (r : RingId) → visits_in_ring r x.turns ≡ visits_taken_by q (visits_with visits t.ring visit r)) cores i d
              (λ q n r. other_picked (same_ring t.ring r) i q visit.turn (visits_in_ring r (cores q).turns) (visits r) n (chains.turns q r))
              (λ r. turn_picked (same_ring t.ring r) i visit.turn (visits_in_ring r (cores i).turns) (visits r) (chains.turns i r));
        }

    -- the forwarded token is the ring's, and goes to the member whose turn is next
    pub went_right : IsToken (visits_with visits t.ring visit)
        (with_core cores i (core_after_move (cores i) (Visits t fresh requests again queue)))
        (to_next (cores i) visit.turn.forwarded).to visit.turn.forwarded
    went_right =
        let ms = (cores i).running.members in
        let d = core_after_move (cores i) (Visits t fresh requests again queue) in
        let me : (cores i).me ≡ at ms (t.number % size ms) = are.me i ∙ has_turn.here in
        record {
          members = ms;
          ring_of = (put_grows cores i d (moved_grows (cores i) (Visits t fresh requests again queue)) t.ring.rep).rings _ ring_here;
          some = has_turn.some;
          sent_to = ap only (ap (next ms) me ∙ next-turn ms t.number has_turn.some);
          token_arrived = subst (λ (vs : List (VisitBy A)). HasArrived t.ring visit.turn.forwarded vs)
              (sym (cond-true (same_ring t.ring t.ring) (visit ∷ visits t.ring) (visits t.ring) (same-self t.ring)))
              (inl refl);
        }

  -- a move that is no visit
  abbrev KeepsTurns : Move A → Type 0
  KeepsTurns m = (core_after_move (cores i) m).turns ≡ (cores i).turns

  quiet : (m : Move A) → KeepsTurns m → AreChains visits (with_core cores i (core_after_move (cores i) m))
  quiet m e =
      let d = core_after_move (cores i) m in
      let g : AllGrown cores (with_core cores i d) = put_grows cores i d (moved_grows (cores i) m) in
      record {
        rounds = λ r. round_grows cores (with_core cores i d) g r (visits r) (chains.rounds r);
        turns = put-each (λ q (x : Core A). (r : RingId) → visits_in_ring r x.turns ≡ visits_taken_by q (visits r)) cores i d
            (λ q n r. chains.turns q r) (λ r. ap (visits_in_ring r) e ∙ chains.turns i r);
      }

  pub chains_moved : (m : Move A) → MayMove (IsReceivedFrame frames i) (cores i) m → AreChains (visits_after visits i (cores i) m) (with_core cores i (core_after_move (cores i) m))
  chains_moved (Visits t fresh requests again queue) h = visit_moved t fresh requests again queue h
  chains_moved (Idles state gathering last_sent queue sends) h = quiet (Idles state gathering last_sent queue sends) refl
  chains_moved (Enters k) h = quiet (Enters k) refl
  chains_moved (Learns k) h = quiet (Learns k) refl
  chains_moved (Takes x) h = quiet (Takes x) refl
  chains_moved Installs h = quiet Installs refl
