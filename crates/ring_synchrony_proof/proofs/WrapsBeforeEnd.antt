-- Before its End a core has wrapped all that it reported of the old ring above the least front.

-- Each user message is wrapped in a message that it held of the new ring, or in the same visit.
use Rattle.std.proofs.Common.{◌≡◌, ℕ, suc, ◌+◌, ◌<◌, ◌≤◌, inl, inr, true, List, [], ◌∷◌, length, Some, refl, sym, ◌∙◌, subst, arith}
use Rattle.std.specs.Prelude.{reverse}
use Rattle.std.specs.List.{AllByRecursion as Each}
use Rattle.std.proofs.lemmas.Bool.{false≢true}
use Rattle.ring_base.specs.declared.ring_id.RingId.{RingId}
use Rattle.ring_base.proofs.Each.{each-weaker}
use Rattle.ring_payload.specs.PayloadKinds.{is_user, is_end}
use Rattle.ring_payload.specs.declared.content.Payload.{Payload}
use Rattle.ring_wire.specs.declared.frame.Frame.{Frame}
use Rattle.ring_wire.specs.declared.message.Message.{Message}
use Rattle.ring_wire.specs.declared.token.Token.{Token}
use Rattle.ring_core_spec.specs.Windows.{found}
use Rattle.ring_core_spec.specs.Tokens.{numbered}
use Rattle.ring_core_spec.specs.Recoveries.{Plan, plan_of, low, is_reported, is_wrap_of}
use Rattle.ring_core_spec.specs.State.{Core}
use Rattle.ring_core_spec.specs.Views.{plan}
use Rattle.ring_core_spec.proofs.Recoveries.{end_no_user}
use Rattle.ring_core_proof.specs.FactWords.{IsIn, SomeIs}
use Rattle.ring_core_proof.specs.Moves.{Move, Idles, Enters, Learns, Visits, Takes, Installs, core_after_move, MayMove, MayVisit, AreWraps, AllAreUsers}
use Rattle.ring_core_proof.proofs.InLists.{in-left, in-right, in-reverse}
use Rattle.ring_core_proof.proofs.WrapsAndEnd.{seen_of}
use Rattle.ring_core_proof.proofs.OwnMessages.{held_stays}
use Rattle.ring_chain_proof.proofs.FactsGrow.{moved_grows}
use Rattle.ring_chain_proof.proofs.OneText.{numbered_in}
use Rattle.ring_core_spec.proofs.Windows.{holds-found}
use Rattle.ring_synchrony_proof.proofs.UserMessages.{found_as}
use Rattle.ring_synchrony_proof.specs.Ends.{IsHandedBefore, HasHandedOn, EndsBehindWraps}
use Rattle.ring_synchrony_proof.proofs.SendsAfterEnd.{numbered-left, held_under, end_last, all_users}
use Rattle.ring_synchrony_proof.proofs.Ends.{sent_back}
use Rattle.ring_synchrony_proof.proofs.OwnPlanReport.{HasOwn, KnowsOwn, plan_is}

-- Facts that stay

handed_stays : {A : Type 0} → (c : Core A) (m : Move A) (ring : RingId) (n : ℕ) → HasHandedOn c ring n → HasHandedOn (core_after_move c m) ring n
handed_stays {A} c m ring n p =
    let g = moved_grows c m in
    record {
      commit = p.commit;
      there = g.plans p.commit p.there;
      ring_is = p.ring_is;
      place = p.place;
      own = p.own;
      here = p.here;
      mine = p.mine ∙ sym g.me;
      handed = λ u e l. (let x = p.handed u e l in
          record {
            message = x.message;
            held = held_stays c m x.message x.held;
            ring_is = x.ring_is;
            number_is = x.number_is;
            wrapped = λ user. (let (y, i, r, k, w) = x.wrapped user in (y, held_stays c m y i, r, k, w));
          });
    }

-- A visit that sends an End

-- each payload that is sent is in a message
carried : {A : Type 0} → (P : Payload A → Type 0) (ring : RingId) (me seq : ℕ) (ps : List (Payload A)) → SomeIs P ps →
    (y : Message A) × IsIn y (numbered ring me seq ps) × P y.payload
carried P ring me seq [] h = absurd h
carried P ring me seq (p ∷ ps) (inl h) = (record { ring = ring; number = suc seq; sender = me; payload = p }, inl refl, h)
carried P ring me seq (p ∷ ps) (inr h) = (let (y, i, k) = carried P ring me (suc seq) ps h in (y, inr i, k))

module _ {A : Type 0} (received : Frame A → Type 0) (c : Core A) (t : Token) (fresh : List (Payload A))
    (requests : List ℕ) (again : List (Message A)) (queue : List (Payload A))
    (h : MayVisit received c t fresh again queue) where
  abbrev d : Core A
  d = core_after_move c (Visits t fresh requests again queue)

  abbrev sent : List (Message A)
  sent = numbered t.ring c.me t.seq fresh

  module _ (o : HasOwn c) (ws : AreWraps c fresh) (x : Message A) (i : IsIn x sent) (e : is_end x.payload ≡ true) where
    abbrev old : RingId
    old = c.installed.ring

    -- a number seen wrapped is held, and so its Wrapped has a lower number; a number wrapped now has its Wrapped
    -- before the End
    wrapped_before : (u : ℕ) (z : Message A) → low (plan c) < u → found c.held old u ≡ Some z → is_user z.payload ≡ true →
        (y : Message A) × IsIn y d.held × (y.ring ≡ t.ring) × (y.number < x.number) × (is_wrap_of old u y.payload ≡ true)
    wrapped_before u z l f user =
        let k = end_last received c t fresh again queue h ws x i e in
        let n : x.number ≡ suc (t.seq + length ws.wraps) = k.1 in
        elim ((k.0).last u z l f user) [
          | inl seen ↦ (let (y, j, r, w) = seen_of c.held c.running.ring old u seen in
              let under : y.number ≤ t.seq = held_under received c t fresh again queue h y j (r ∙ sym h.ring) in
              (y, in-right y (reverse sent) c.held j, r ∙ sym h.ring, omega (arith, under, n), w))
          | inr some ↦ (let (y, j, w) = carried (λ (p : Payload A). is_wrap_of old u p ≡ true) t.ring c.me t.seq ws.wraps some in
              let g = numbered_in t.ring c.me t.seq ws.wraps y j in
              let within = g.within in
              let there : IsIn y sent =
              subst (λ ps. IsIn y (numbered t.ring c.me t.seq ps)) (sym ws.parts) (numbered-left t.ring c.me t.seq ws.wraps ws.ends y j) in
              (y, in-left y (reverse sent) c.held (in-reverse y sent there), g.ring_is, omega (arith, within, n), w))
        ]

    handed_one : (u : ℕ) → is_reported u o.own ≡ true → low (plan c) < u → IsHandedBefore d old t.ring u x.number
    handed_one u r l =
        let z = holds-found c.held old u (o.held u r) in
        let f = found_as c.held old u z.0 z.1 in
        record {
          message = z.0;
          held = in-right z.0 (reverse sent) c.held f.there;
          ring_is = f.ring_is;
          number_is = f.number_is;
          wrapped = λ user. wrapped_before u z.0 l z.1 user;
        }

    has_handed : HasHandedOn d t.ring x.number
    has_handed =
        record {
          commit = o.commit;
          there = o.there;
          ring_is = o.ring ∙ sym h.ring;
          place = o.place;
          own = o.own;
          here = o.here;
          mine = o.mine;
          handed = λ u r l. subst (λ (q : RingId). IsHandedBefore d q t.ring u x.number) (sym o.old)
              (handed_one u r (subst (λ (p : Plan). low p < u) (sym (plan_is c o))
              (subst (λ (q : RingId). low (plan_of q o.commit.members o.commit.entries) < u) o.old l)));
        }

  pub visit_ends : KnowsOwn c → AllAreUsers c.queue → (x : Message A) → IsIn x sent → is_end x.payload ≡ true → HasHandedOn d t.ring x.number
  visit_ends knows queued x i e =
      elim (h.state) [
        | inl r ↦ has_handed (knows r) (h.wraps r) x i e
        | inr o ↦ absurd (false≢true (sym (end_no_user x.payload e) ∙ all_users received c t fresh again queue h (h.users o queued) x i))
      ]

pub moved_handed : {A : Type 0} → (received : Frame A → Type 0) (c : Core A) (m : Move A) → MayMove received c m → KnowsOwn c → AllAreUsers c.queue →
    Each (EndsBehindWraps c) c.turns →
    Each (EndsBehindWraps (core_after_move c m)) (core_after_move c m).turns
moved_handed {A} received c m h knows queued e =
    go m h
    (each-weaker (EndsBehindWraps c) (EndsBehindWraps (core_after_move c m)) (λ v s x i u. handed_stays c m v.received.ring x.number (s x (sent_back c m v x i) u)) c.turns e)
  where
    go : (m : Move A) → MayMove received c m → Each (EndsBehindWraps (core_after_move c m)) c.turns → Each (EndsBehindWraps (core_after_move c m)) (core_after_move c m).turns
    go (Idles state gathering last_sent queue sends) h k = k
    go (Enters q) h k = k
    go (Learns q) h k = k
    go (Visits t fresh requests again queue) h k = (λ x i u. visit_ends received c t fresh requests again queue h knows queued x i u, k)
    go (Takes x) h k = k
    go Installs h k = k
