-- In every run of ring cores each ring has one text: all that was numbered in the visits of its token.
use Rattle.std.proofs.Common.{◌≡◌, ℕ, ◌-◌, ◌≤◌, inl, inr, true, List, take, refl, ap, sym, ◌∙◌, subst, arith}
use Rattle.std.specs.Prelude.{filter_map}
use Rattle.ring_base.specs.Prefixes.{IsListPrefix}
use Rattle.ring_base.specs.Numbers.{numbers_from}
use Rattle.ring_base.specs.Rings.{same_ring}
use Rattle.ring_base.specs.declared.ring_id.RingId.{RingId}
use Rattle.ring_base.proofs.ListFronts.{taken-front}
use Rattle.ring_base.proofs.SameRing.{same-self}
use Rattle.ring_payload.specs.PayloadKinds.{is_user}
use Rattle.ring_wire.specs.declared.message.Message.{Message}
use Rattle.ring_core_spec.specs.Windows.{found, holds}
use Rattle.ring_core_spec.proofs.Windows.{front_is, holds-found}
use Rattle.ring_core_spec.specs.Tokens.{TokenVisit, numbered, VisitBy}
use Rattle.ring_core_spec.specs.Views.{front}
use Rattle.ring_core_spec.specs.Giving.{user_messages_between}
use Rattle.ring_core_proof.specs.FactWords.{IsIn, SomeIs}
use Rattle.ring_core_proof.specs.declared.event.RingEvent.{RingEvent}
use Rattle.ring_core_proof.specs.Worlds.{World, run, unformed}
use Rattle.ring_core_proof.proofs.InLists.{in-each, in-filter, in-filtered}
use Rattle.ring_synchrony_proof.specs.Chains.{visits_taken_by, IsGenuine}
use Rattle.ring_synchrony_proof.proofs.Chains.{Holds}
use Rattle.ring_synchrony_proof.proofs.UserMessages.{found_as}
use Rattle.ring_synchrony_proof.proofs.Recovering.{Recovered, numbered_by, all_recovered}
use Rattle.ring_order_proof.specs.SentPayloads.{payloads_of_visits}
use Rattle.ring_order_proof.specs.Texts.{IsNumberedIn, IsText, HasTexts}
use Rattle.ring_order_proof.proofs.Numbering.{all_numbered, some_numbered, numbered_some, picked_numbered, all_named, users_named}
use Rattle.ring_order_proof.proofs.Numbering.{users_in, AreFrom, all_from, users_ascend, users_each, IsThere, found_taken, users_front, said_visits}

module _ {A : Type 0} (w : World A) (r : Recovered w.cores w.frames) where
  abbrev h : Holds w.cores w.frames
  h = (r.all).all

  -- all that was numbered in a ring
  abbrev pub whole : RingId → List (Message A)
  whole ring = all_numbered ring (h.visits ring)

  pub complete_exchange_from : (ring : RingId) → AreFrom 0 (whole ring)
  complete_exchange_from ring = elim ((h.chains).rounds ring) [
    | inl e ↦ subst (λ (vs : List (VisitBy A)). AreFrom 0 (all_numbered ring vs)) (sym e) tt
    | inr k ↦ (all_from k.members ring (h.visits ring) k.visits_are).0
  ]

  -- what is held up to the front is in it
  is_there : (q : ℕ) (ring : RingId) (j : ℕ) → 1 ≤ j → j ≤ front (w.cores q) ring → IsThere (found (w.cores q).held ring) (whole ring) j
  is_there q ring j low up =
      let held = (w.cores q).held in
      let there : holds held ring j ≡ true = (front_is held ring).below j low up in
      let f = holds-found held ring j there in
      let a = found_as held ring j f.0 f.1 in
      let g : IsGenuine h.visits f.0 = in-each (IsGenuine h.visits) f.0 held ((h.texts).held q) a.there in (
        f.0,
        f.1,
        some_numbered ring (h.visits ring) f.0
            (subst (λ (s : RingId). SomeIs (λ (v : VisitBy A). IsIn f.0 (numbered s v.who v.turn.received.seq v.turn.fresh))
            (h.visits s)) a.ring_is g),
        a.number_is,
      )

  -- the messages received up to a number are those numbered up to it
  pub heard_is : (q : ℕ) (ring : RingId) (n : ℕ) → n ≤ front (w.cores q) ring → user_messages_between (w.cores q) ring 0 n ≡ users_in (take n (whole ring))
  heard_is q ring n l =
      let get = found (w.cores q).held ring in
      let same : n - 0 ≡ n = omega arith in
      ap (λ (k : ℕ). users_in (filter_map get (numbers_from 1 k))) same
      ∙ ap (λ (xs : List (Message A)). users_in xs) (found_taken get 0 n (whole ring) (complete_exchange_from ring)
      (λ j low up. is_there q ring j (omega (arith, low)) (omega (arith, l, up))))

  -- its elements are of the ring, and their senders numbered them at a visit
  pub numbered_by_sender : (ring : RingId) (x : Message A) → IsIn x (whole ring) → IsNumberedIn w.cores ring x
  numbered_by_sender ring x i =
      let named : x.ring ≡ ring = in-each (λ (y : Message A). y.ring ≡ ring) x (whole ring) (all_named ring (h.visits ring)) i in
      let genuine : IsGenuine h.visits x =
      subst (λ (s : RingId). SomeIs (λ (v : VisitBy A). IsIn x (numbered s v.who v.turn.received.seq v.turn.fresh)) (h.visits s)) (sym named)
      (numbered_some ring (h.visits ring) x i) in
      let n = numbered_by w.cores w.frames h x genuine in
      let same : n.turn.received.ring ≡ ring = n.ring_is ∙ named in
      record {
        turn = n.turn;
        taken = n.there;
        ring_is = same;
        there = subst (λ (s : RingId). IsIn x (numbered s x.sender n.turn.received.seq n.turn.fresh)) same n.numbered_there;
      }

  -- and everything numbered so is in it
  numbered_there : (ring : RingId) (x : Message A) → IsNumberedIn w.cores ring x → IsIn x (whole ring)
  numbered_there ring x n =
      let t = n.turn in
      let of_ring : same_ring t.received.ring ring ≡ true = subst (λ (s : RingId). same_ring s ring ≡ true) (sym n.ring_is) (same-self ring) in
      let own = in-filter (λ (u : TokenVisit A). same_ring u.received.ring ring) t (w.cores x.sender).turns n.taken of_ring in
      let taken : IsIn t (visits_taken_by x.sender (h.visits ring)) = subst (λ (ts : List (TokenVisit A)). IsIn t ts) ((h.chains).turns x.sender ring) own in
      picked_numbered ring (h.visits ring) x t taken n.there

  is_text : (ring : RingId) → IsText w.cores ring (users_in (whole ring))
  is_text ring =
      let user = λ (y : Message A). is_user y.payload in
      record {
        ascending = users_ascend 0 (whole ring) (complete_exchange_from ring);
        users = users_each (whole ring);
        numbered = λ x i. numbered_by_sender ring x (in-filtered user x (whole ring) i).0;
        whole = λ x n u. in-filter user x (whole ring) (numbered_there ring x n) u;
      }

  pub texts : HasTexts w
  texts =
      record {
        text = λ ring. users_in (whole ring);
        is = is_text;
        named = λ ring. users_named ring (h.visits ring);
        heard = λ q ring.
            let n = front (w.cores q) ring in
            subst (λ (xs : List (Message A)). IsListPrefix xs (users_in (whole ring))) (sym (heard_is q ring n (omega arith)))
            (users_front (take n (whole ring)) (whole ring) (taken-front n (whole ring)));
        said = λ q ring. said_visits q ring (h.visits ring) ∙ ap payloads_of_visits (sym ((h.chains).turns q ring));
      }

pub text_is : {A : Type 0} → (w : World A) (r : Recovered w.cores w.frames) (ring : RingId) → (texts w r).text ring ≡ users_in (whole w r ring)
unfolding texts
text_is w r ring = refl

pub all_texts : {A : Type 0} → (n : ℕ) (events : List (RingEvent A)) → HasTexts (run (unformed n) events)
all_texts {A} n events = texts (run (unformed n) events) (all_recovered n events)
