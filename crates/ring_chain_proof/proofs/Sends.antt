-- Each frame that a move sends is valid: a message is genuine, a token goes to the member whose turn is next, a
-- commit token is the next hop.
use Rattle.std.proofs.Common.{◌≡◌, ℕ, suc, ◌-◌, ◌*◌, ◌%◌, min, ◌<◌, ◌≤◌, inl, inr, Bool, ◌==◌, List, [], ◌∷◌}
use Rattle.std.proofs.Common.{◌++◌, length, Option, Some, None, refl, ap, sym, ◌∙◌, subst, arith, append-nil}
use Rattle.std.proofs.Common.{mod-eq_of_lt}
use Rattle.std.specs.Prelude.{filter, slice_get, not}
use Rattle.std.specs.List.{AllByRecursion as Each}
use Rattle.ring_base.specs.Processors.{nobody, only, less, at, size}
use Rattle.ring_base.proofs.Each.{each-weaker, each-append, each-map, each-filter}
use Rattle.ring_base.proofs.ListPlaces.{get-push, push-length}
use Rattle.ring_payload.specs.declared.content.Payload.{Payload}
use Rattle.ring_wire.specs.declared.commit.CommitToken.{CommitToken}
use Rattle.ring_wire.specs.declared.entries.CommitEntry.{CommitEntry}
use Rattle.ring_wire.specs.declared.frame.Frame.TheVariants.{Message as MessageFrame, Commit as CommitFrame}
use Rattle.ring_wire.specs.declared.message.Message.{Message}
use Rattle.ring_wire.specs.declared.token.Token.{Token}
use Rattle.ring_core_spec.specs.Tokens.{numbered}
use Rattle.ring_core_spec.specs.Commits.{receiver, hop_with_entries}
use Rattle.ring_core_spec.specs.State.{Core, OutgoingFrame}
use Rattle.ring_core_spec.specs.Views.{own_entry}
use Rattle.ring_core_spec.specs.Visiting.{to_others, to_next}
use Rattle.ring_core_spec.specs.CommitSteps.{commit_sent_on}
use Rattle.ring_core_proof.specs.FactWords.{IsIn}
use Rattle.ring_core_proof.specs.Worlds.{Transmission, with_core, transmissions_from}
use Rattle.ring_core_proof.specs.Moves.{Move, Idles, Enters, Learns, Visits, Takes, Installs, forwarded_with, core_after_move, sends_of}
use Rattle.ring_core_proof.specs.Moves.{IsRepeated, MayEnter, MayLearn, MayVisit, MayMove, IsReceivedFrame}
use Rattle.ring_core_proof.proofs.InLists.{in-each}
use Rattle.ring_core_proof.proofs.Lifting.{put-here}
use Rattle.ring_core_proof.proofs.VisitsByRules.{Turned}
use Rattle.ring_chain_proof.specs.ChainWords.{Chains, IsGenuine, AreReports}
use Rattle.ring_chain_proof.proofs.GenuineFrames.{IsHop, IsRight, AreRight, visits_after}
use Rattle.ring_chain_proof.proofs.FactsGrow.{AllGrown, put-each, put_grows, moved_grows, visits_grow, right_grows, all_right_grow}
use Rattle.ring_chain_proof.proofs.Rings.{AreRings, came_right, entered_shared}
use Rattle.ring_chain_proof.specs.ChainFacts.{AreChains}
use Rattle.ring_chain_proof.proofs.Chain.{went_right}
use Rattle.ring_chain_proof.proofs.OneText.{AreTexts, new_genuine}

-- the kept token is valid
abbrev pub ShowsRight : {A : Type 0} → Chains A → (ℕ → Core A) → ℕ → Option (OutgoingFrame A) → Type 0
ShowsRight {A} visits cores q last_sent = (s : OutgoingFrame A) → last_sent ≡ Some s → IsRight visits cores q s.to s.frame

pub record AreSent {A : Type 0} (visits : Chains A) (cores : ℕ → Core A) (frames : List (Transmission A)) : Type 0 where
  pub right : AreRight visits cores frames
  pub last_sent : (q : ℕ) → ShowsRight visits cores q (cores q).last_sent

-- the entries so far
record HasEntries {A : Type 0} (cores : ℕ → Core A) (k : CommitToken) : Type 0 where
  pub count : length k.entries ≡ k.hop
  pub reports : AreReports cores k

module _ {A : Type 0} (visits : Chains A) (cores : ℕ → Core A) (frames : List (Transmission A)) (i : ℕ) (low : 1 ≤ i)
    (sent : AreSent visits cores frames) (are : AreRings cores) where
  -- Commit tokens

  entries_before : (k : CommitToken) → MayEnter (IsReceivedFrame frames i) (cores i) k → HasEntries cores k
  entries_before k h =
      let first : k.hop < size k.members = h.first (let e : (cores i).me ≡ i = are.me i in omega arith) in
      elim (h.from) [
        | inl own ↦ record {
          count = ap length own.entries ∙ sym own.hop;
          reports = λ x e s. absurd (let n : slice_get {X = CommitEntry} [] x ≡ Some e = subst
              (λ es. slice_get es x ≡ Some e) own.entries s in let none : ⊥ = cc in none);
        }
        | inr received ↦ (let f = came_right visits cores frames i (CommitFrame k) sent.right received in
            let hop : IsHop cores f.0 f.1 k = f.3 in
            record { count = (let c : length k.entries ≡ min k.hop (size k.members) = hop.count in omega arith); reports = hop.reports })
      ]

  entered_right : (k : CommitToken) → MayEnter (IsReceivedFrame frames i) (cores i) k →
      IsHop (with_core cores i (core_after_move (cores i) (Enters k))) i (only (receiver (hop_with_entries k (own_entry (cores i) ∷ [])))) (hop_with_entries k (own_entry (cores i) ∷ []))
  entered_right k h =
      let own = own_entry (cores i) in
      let d = core_after_move (cores i) (Enters k) in
      let g : AllGrown cores (with_core cores i d) = put_grows cores i d (moved_grows (cores i) (Enters k)) in
      let first : k.hop < size k.members = h.first (let e : (cores i).me ≡ i = are.me i in omega arith) in
      let here : at k.members (k.hop % size k.members) ≡ i = h.here ∙ are.me i in
      let hop : k.hop % size k.members ≡ k.hop = mod-eq_of_lt first in
      let before = entries_before k h in
      let count : length k.entries ≡ k.hop = before.count in
      let push : length (k.entries ++ own ∷ []) ≡ suc (length k.entries) = push-length k.entries own in
      let less : suc k.hop - 1 ≡ k.hop = omega arith in
      let mine : IsIn (record { ring = k.ring; entry = own }) (with_core cores i d i).reports =
      subst (λ (x : Core A). IsIn (record { ring = k.ring; entry = own }) x.reports) (sym (put-here cores i d))
      (inl refl) in
      record {
        ring_of = entered_shared visits cores frames i sent.right are k h;
        sent_to = refl;
        sent_by = sym here ∙ ap (λ n. at k.members (n % size k.members)) (sym less);
        low = omega arith;
        high = omega arith;
        count = omega arith;
        reports = λ x e s. elim (get-push k.entries own x e s) [
          | inl old ↦ (g (at k.members x)).reports _ (before.reports x e old)
          | inr new ↦ (let who : i ≡ at k.members x = sym here ∙ ap (at k.members) (hop ∙ sym count ∙ sym new.0) in
              subst (λ q. IsIn (record { ring = k.ring; entry = e }) (with_core cores i d q).reports) who
              (subst (λ e. IsIn (record { ring = k.ring; entry = e }) (with_core cores i d i).reports) new.1 mine))
        ];
      }

  learned_right : (k : CommitToken) → MayLearn (IsReceivedFrame frames i) (cores i) k →
      IsHop (with_core cores i (core_after_move (cores i) (Learns k))) i (only (receiver (hop_with_entries k []))) (hop_with_entries k [])
  learned_right k h =
      let d = core_after_move (cores i) (Learns k) in
      let g : AllGrown cores (with_core cores i d) = put_grows cores i d (moved_grows (cores i) (Learns k)) in
      let here : at k.members (k.hop % size k.members) ≡ i = h.here ∙ are.me i in
      let less : suc k.hop - 1 ≡ k.hop = omega arith in
      let f = came_right visits cores frames i (CommitFrame k) sent.right h.from in
      let hop : IsHop cores f.0 f.1 k = f.3 in
      let same : k.entries ++ [] ≡ k.entries = append-nil k.entries in
      let count : length (k.entries ++ []) ≡ min k.hop (size k.members) = ap length same ∙ hop.count in
      let second : size k.members ≤ k.hop = h.second in
      let last : k.hop < 2 * size k.members = h.last in
      record {
        ring_of = (g k.ring.rep).rings _ hop.ring_of;
        sent_to = refl;
        sent_by = sym here ∙ ap (λ n. at k.members (n % size k.members)) (sym less);
        low = omega arith;
        high = omega arith;
        count = omega arith;
        reports = λ x e s. (g (at k.members x)).reports _ (hop.reports x e (subst (λ es. slice_get es x ≡ Some e) same s));
      }

  module _ (chains : AreChains visits cores) (texts : AreTexts visits cores) (turned : (q : ℕ) → Turned (cores q)) where
    abbrev after : Move A → ℕ → Core A
    after m = with_core cores i (core_after_move (cores i) m)

    -- the kept token of before is still valid
    last_sent_repeated : (m : Move A) (q : ℕ) → ShowsRight (visits_after visits i (cores i) m) (after m) q (cores q).last_sent
    last_sent_repeated m q s e = right_grows visits (visits_after visits i (cores i) m) cores (after m)
        (visits_grow visits i (cores i) m) (put_grows cores i (core_after_move (cores i) m) (moved_grows (cores i) m))
        q s.to s.frame (sent.last_sent q s e)

    abbrev SendsRight : Move A → OutgoingFrame A → Type 0
    SendsRight m s = IsRight (visits_after visits i (cores i) m) (after m) i s.to s.frame

    repeated_right : (m : Move A) (s : OutgoingFrame A) → IsRepeated (cores i).last_sent s → SendsRight m s
    repeated_right m s (inl e) = last_sent_repeated m i s e
    repeated_right m s (inr (j, e)) = subst (IsRight (visits_after visits i (cores i) m) (after m) i s.to) (sym e) tt

    messages_right : (m : Move A) (xs : List (Message A)) → Each (IsGenuine (visits_after visits i (cores i) m)) xs →
        Each (SendsRight m) (to_others (cores i) xs)
    messages_right m xs h = each-map (SendsRight m) (λ x. record { to = less (cores i).running.members (only (cores i).me); frame = MessageFrame x }) xs h

    visit_right : (t : Token) (fresh : List (Payload A)) (requests : List ℕ) (again : List (Message A)) (queue : List (Payload A)) →
        MayVisit (IsReceivedFrame frames i) (cores i) t fresh again queue →
        Each (SendsRight (Visits t fresh requests again queue)) (sends_of (cores i) (Visits t fresh requests again queue))
    visit_right t fresh requests again queue h =
        let m = Visits t fresh requests again queue in
        let g = visits_grow visits i (cores i) m in
        let new = numbered t.ring (cores i).me t.seq fresh in
        let held : Each (IsGenuine (visits_after visits i (cores i) m)) again = each-weaker
        (λ (x : Message A). IsIn x (cores i).held) _ (λ x k. g.genuine x
        (in-each (IsGenuine visits) x (cores i).held (texts.held i) k)) again h.repeats in
        let both : Each (IsGenuine (visits_after visits i (cores i) m)) (again ++ new) = each-append _ again new held
        (new_genuine visits cores frames i sent.right are texts t fresh requests) in
        each-append (SendsRight m) (to_others (cores i) (again ++ new)) (to_next (cores i) (forwarded_with (cores i) t fresh requests) ∷ [])
        (messages_right m (again ++ new) both)
        (went_right visits cores frames i low sent.right are chains turned t fresh requests again queue h, tt)

    sends_right : (m : Move A) → MayMove (IsReceivedFrame frames i) (cores i) m → Each (SendsRight m) (sends_of (cores i) m)
    sends_right (Idles state gathering last_sent queue sends) h = each-weaker
        (IsRepeated (cores i).last_sent) _ (repeated_right (Idles state gathering last_sent queue sends)) sends h.sent
    sends_right (Enters k) h = (entered_right k h, tt)
    sends_right (Learns k) h = (learned_right k h, tt)
    sends_right (Visits t fresh requests again queue) h = visit_right t fresh requests again queue h
    sends_right (Takes x) h = tt
    sends_right Installs h = tt

    some_right : (m : Move A) (s : OutgoingFrame A) → SendsRight m s → ShowsRight (visits_after visits i (cores i) m) (after m) i (Some s)
    some_right m s h u e = (let same : s ≡ u = cc in subst (λ (s : OutgoingFrame A). SendsRight m s) same h)

    shown_right : (m : Move A) → MayMove (IsReceivedFrame frames i) (cores i) m → ShowsRight (visits_after visits i (cores i) m) (after m) i (core_after_move (cores i) m).last_sent
    shown_right (Idles state gathering last_sent queue sends) h =
        elim (h.shows) [
          | inl none ↦ λ s e. absurd (let n : None ≡ Some s = sym none ∙ e in let x : ⊥ = cc in x)
          | inr same ↦ λ s e. last_sent_repeated (Idles state gathering last_sent queue sends) i s (sym same ∙ e)
        ]
    shown_right (Enters k) h = some_right (Enters k) (commit_sent_on (hop_with_entries k (own_entry (cores i) ∷ []))) (entered_right k h)
    shown_right (Learns k) h = some_right (Learns k) (commit_sent_on (hop_with_entries k [])) (learned_right k h)
    shown_right (Visits t fresh requests again queue) h =
        some_right (Visits t fresh requests again queue) (to_next (cores i) (forwarded_with (cores i) t fresh requests))
        (went_right visits cores frames i low sent.right are chains turned t fresh requests again queue h)
    shown_right (Takes x) h = last_sent_repeated (Takes x) i
    shown_right Installs h = last_sent_repeated Installs i

    pub sent_moved : (m : Move A) → MayMove (IsReceivedFrame frames i) (cores i) m →
        AreSent (visits_after visits i (cores i) m) (after m) (frames ++ transmissions_from i (sends_of (cores i) m))
    sent_moved m h =
        let vs = visits_after visits i (cores i) m in
        let g = put_grows cores i (core_after_move (cores i) m) (moved_grows (cores i) m) in
        let test : OutgoingFrame A → Bool = λ s. not (s.to == nobody) in
        let sends = sends_of (cores i) m in
        let are_replies_right : Transmission A → Type 0 = λ f. IsRight vs (after m) f.from f.to f.frame in
        record {
          right = each-append are_replies_right frames (transmissions_from i sends)
              (all_right_grow visits vs cores (after m) (visits_grow visits i (cores i) m) g frames sent.right)
              (each-map are_replies_right (λ (s : OutgoingFrame A). record { from = i; to = s.to; frame = s.frame })
              (filter test sends) (each-filter (SendsRight m) test sends (sends_right m h)));
          last_sent = put-each (λ q (x : Core A). ShowsRight vs (after m) q x.last_sent) cores i (core_after_move (cores i) m) (λ q n. last_sent_repeated m q) (shown_right m h);
        }
