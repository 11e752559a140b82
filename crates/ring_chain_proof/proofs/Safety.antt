-- Each member of a ring holds what a safe mark of the ring covers.

-- By the safe lemma this holds of the `aru` that two visits forwarded; a mark reported in a commit token was a safe
-- mark when it was reported.
use Rattle.std.proofs.Common.{◌≡◌, ℕ, ◌≤◌, max, inl, inr, Bool, true, false, ◌==◌, cond, List, [], ◌∷◌, map, refl, ap, sym, ◌∙◌, subst, arith}
use Rattle.std.specs.Prelude.{filter}
use Rattle.std.specs.List.{AllByRecursion as Each}
use Rattle.std.proofs.lemmas.Bool.{cond_both, cases_lt, eq-eqb, cond-true}
use Rattle.ring_base.specs.Numbers.{greatest}
use Rattle.ring_base.specs.Rings.{same_ring}
use Rattle.ring_base.specs.declared.ring_id.RingId.{RingId}
use Rattle.ring_base.proofs.Each.{each-weaker, each-placed}
use Rattle.ring_wire.specs.declared.commit.CommitToken.{CommitToken}
use Rattle.ring_wire.specs.declared.entries.CommitEntry.{CommitEntry}
use Rattle.ring_wire.specs.declared.frame.Frame.TheVariants.{Commit as CommitFrame}
use Rattle.ring_base.proofs.SameRing.{ring_same}
use Rattle.ring_core_spec.specs.Tokens.{TokenVisit, MarkRaise, mark_from_arus, forwarded_in, raised_to, VisitBy, forwarded_by, FrontsHaveGrown}
use Rattle.ring_core_spec.proofs.Tokens.{marks_safe}
use Rattle.ring_core_spec.specs.Commits.{reports_of, safe_of}
use Rattle.ring_core_spec.specs.State.{Core, Report}
use Rattle.ring_core_spec.specs.Views.{front, mark}
use Rattle.ring_core_proof.specs.FactWords.{IsIn}
use Rattle.ring_core_proof.specs.Worlds.{Transmission, with_core}
use Rattle.ring_core_proof.specs.Moves.{Move, Idles, Enters, Learns, Visits, Takes, Installs, core_after_move, MayMove, IsReceivedFrame}
use Rattle.ring_core_proof.proofs.InLists.{in-each, each-in, in-filtered}
use Rattle.ring_core_proof.proofs.VisitsByRules.{Turned}
use Rattle.ring_chain_proof.specs.ChainWords.{Chains, visits_taken_by, IsSafe}
use Rattle.ring_chain_proof.proofs.GenuineFrames.{IsHop, AreRight}
use Rattle.ring_chain_proof.proofs.FactsGrow.{AllGrown, put-each, put_grows, moved_grows, safe_grows}
use Rattle.ring_chain_proof.proofs.Rings.{came_right}
use Rattle.ring_chain_proof.specs.ChainFacts.{AreChains}

pub record AreSafe {A : Type 0} (cores : ℕ → Core A) : Type 0 where
  pub raises : (q : ℕ) → Each (λ (x : MarkRaise). IsSafe cores x.ring x.mark) (cores q).raises
  pub reports : (q : ℕ) → Each (λ (x : Report). IsSafe cores x.entry.old x.entry.mark) (cores q).reports

-- the greater of two that are safe
safe_max : {A : Type 0} → (cores : ℕ → Core A) (r : RingId) (a b : ℕ) → IsSafe cores r a → IsSafe cores r b → IsSafe cores r (max a b)
safe_max cores r a b ha hb =
    elim (cases_lt a b) [
      | inl l ↦ (let e : b ≡ max a b = omega arith in subst (IsSafe cores r) e hb)
      | inr l ↦ (let e : a ≡ max a b = omega arith in subst (IsSafe cores r) e ha)
    ]

-- the greatest mark to which a plan raised a ring
raised_safe : {A : Type 0} → (cores : ℕ → Core A) (r : RingId) (raises : List MarkRaise) → Each (λ (x : MarkRaise). IsSafe cores x.ring x.mark) raises →
    IsSafe cores r (raised_to r raises)
raised_safe cores r [] h = inl refl
raised_safe cores r (x ∷ raises) h =
    let rest = filter (λ (x : MarkRaise). same_ring x.ring r) raises in
    cond_both (same_ring x.ring r) (x ∷ rest) rest (λ xs. IsSafe cores r (greatest (map (λ (x : MarkRaise). x.mark) xs)))
    (λ e. safe_max cores r x.mark (greatest (map (λ (x : MarkRaise). x.mark) rest))
    (subst (λ q. IsSafe cores q x.mark) (ring_same x.ring r e) h.0) (raised_safe cores r raises h.1))
    (λ e. raised_safe cores r raises h.1)

-- the greatest mark in the reports of a ring
pub reported_safe : {A : Type 0} → (cores : ℕ → Core A) (r : RingId) (entries : List CommitEntry) →
    Each (λ (e : CommitEntry). IsSafe cores e.old e.mark) entries → IsSafe cores r (safe_of (reports_of r entries))
reported_safe cores r [] h = inl refl
reported_safe cores r (x ∷ entries) h =
    let rest = reports_of r entries in
    cond_both (same_ring x.old r) (x ∷ rest) rest (λ es. IsSafe cores r (safe_of es))
    (λ e. safe_max cores r x.mark (safe_of rest) (subst (λ q. IsSafe cores q x.mark) (ring_same x.old r e) h.0) (reported_safe cores r entries h.1))
    (λ e. reported_safe cores r entries h.1)

-- A core's own visits in the list of all

forwarded_picked : {A : Type 0} → (q : ℕ) (vs : List (VisitBy A)) → map (λ (v : TokenVisit A). v.forwarded.aru) (visits_taken_by q vs) ≡ forwarded_by q vs
forwarded_picked q [] = refl
forwarded_picked {A} q (v ∷ vs) = one (v.who == q) (forwarded_picked q vs)
  where
    one : (b : Bool) → map (λ (v : TokenVisit A). v.forwarded.aru) (visits_taken_by q vs) ≡ forwarded_by q vs →
        map (λ (v : TokenVisit A). v.forwarded.aru) (cond b (v.turn ∷ visits_taken_by q vs) (visits_taken_by q vs)) ≡ cond b (v.turn.forwarded.aru ∷ forwarded_by q vs) (forwarded_by q vs)
    one true e = ap (λ xs. v.turn.forwarded.aru ∷ xs) e
    one false e = e

pub in_picked : {A : Type 0} → (v : VisitBy A) (vs : List (VisitBy A)) → IsIn v vs → IsIn v.turn (visits_taken_by v.who vs)
in_picked v [] h = absurd h
in_picked {A} v (w ∷ vs) (inl e) =
    let P : List (TokenVisit A) → Type 0 = λ ts. IsIn v.turn ts in
    subst P (sym (cond-true (w.who == v.who) (w.turn ∷ visits_taken_by v.who vs) (visits_taken_by v.who vs)
    (eq-eqb w.who v.who (ap (λ (u : VisitBy A). u.who) (sym e))))) (inl (ap (λ (u : VisitBy A). u.turn) e))
in_picked {A} v (w ∷ vs) (inr h) =
    cond_both (w.who == v.who) (w.turn ∷ visits_taken_by v.who vs) (visits_taken_by v.who vs) (λ (ts : List (TokenVisit A)). IsIn v.turn ts)
    (λ e. inr (in_picked v vs h)) (λ e. in_picked v vs h)

module _ {A : Type 0} (visits : Chains A) (cores : ℕ → Core A) (chains : AreChains visits cores)
    (turned : (q : ℕ) → Turned (cores q)) (safe : AreSafe cores) where
  -- fronts have grown since the visits
  grown_since : (r : RingId) → FrontsHaveGrown (λ p. front (cores p) r) (visits r)
  grown_since r =
      each-in (λ (v : VisitBy A). v.turn.front ≤ front (cores v.who) r) (visits r) (λ v h.
      let P : List (TokenVisit A) → Type 0 = λ ts. IsIn v.turn ts in
      let i = in-filtered (λ (u : TokenVisit A). same_ring u.received.ring r) v.turn (cores v.who).turns
      (subst P (sym (chains.turns v.who r)) (in_picked v (visits r) h)) in
      let t = in-each _ v.turn (cores v.who).turns (turned v.who) i.0 in
      subst (λ q. v.turn.front ≤ front (cores v.who) q) (ring_same v.turn.received.ring r i.1) t.grown)

  visits_safe : (q : ℕ) (r : RingId) → IsSafe cores r (mark_from_arus (forwarded_in r (cores q).turns))
  visits_safe q r =
      let same : forwarded_in r (cores q).turns ≡ forwarded_by q (visits r) = ap (map (λ (v : TokenVisit A). v.forwarded.aru))
      (chains.turns q r) ∙ forwarded_picked q (visits r) in
      subst (λ fs. IsSafe cores r (mark_from_arus fs)) (sym same)
      (elim (chains.rounds r) [
        | inl e ↦ inl (ap (λ (vs : List (VisitBy A)). mark_from_arus (forwarded_by q vs)) e)
        | inr round ↦ inr (
          round.members,
          round.ring_of,
          λ p proc m. marks_safe round.members r (visits r)
              (λ p. front (cores p) r) round.some round.visits_are (grown_since r) q p proc m,
        )
      ])

  -- each safe mark of each core is safe
  pub mark_safe : (q : ℕ) (r : RingId) → IsSafe cores r (mark (cores q) r)
  mark_safe q r = safe_max cores r (mark_from_arus (forwarded_in r (cores q).turns)) (raised_to r (cores q).raises)
      (visits_safe q r) (raised_safe cores r (cores q).raises (safe.raises q))

  module _ (frames : List (Transmission A)) (i : ℕ) (right : AreRight visits cores frames) where
    entries_safe : (k : CommitToken) → IsReceivedFrame frames i (CommitFrame k) → Each (λ (e : CommitEntry). IsSafe cores e.old e.mark) k.entries
    entries_safe k received =
        let f = came_right visits cores frames i (CommitFrame k) right received in
        let hop : IsHop cores f.0 f.1 k = f.3 in
        each-placed (λ (e : CommitEntry). IsSafe cores e.old e.mark) k.entries
        (λ x e s. in-each (λ (x : Report). IsSafe cores x.entry.old x.entry.mark)
        (record { ring = k.ring; entry = e }) _ (safe.reports _) (hop.reports x e s))

    raises_moved : (m : Move A) → MayMove (IsReceivedFrame frames i) (cores i) m → Each (λ (x : MarkRaise). IsSafe cores x.ring x.mark) (core_after_move (cores i) m).raises
    raises_moved (Learns k) h = (reported_safe cores (cores i).installed.ring k.entries (entries_safe k h.from), safe.raises i)
    raises_moved (Idles state gathering last_sent queue sends) h = safe.raises i
    raises_moved (Enters k) h = safe.raises i
    raises_moved (Visits t fresh requests again queue) h = safe.raises i
    raises_moved (Takes x) h = safe.raises i
    raises_moved Installs h = safe.raises i

    reports_moved : (m : Move A) → Each (λ (x : Report). IsSafe cores x.entry.old x.entry.mark) (core_after_move (cores i) m).reports
    reports_moved (Enters k) = (mark_safe i (cores i).installed.ring, safe.reports i)
    reports_moved (Idles state gathering last_sent queue sends) = safe.reports i
    reports_moved (Learns k) = safe.reports i
    reports_moved (Visits t fresh requests again queue) = safe.reports i
    reports_moved (Takes x) = safe.reports i
    reports_moved Installs = safe.reports i

    pub safe_moved : (m : Move A) → MayMove (IsReceivedFrame frames i) (cores i) m → AreSafe (with_core cores i (core_after_move (cores i) m))
    safe_moved m h =
        let d = core_after_move (cores i) m in
        let cores' = with_core cores i d in
        let g : AllGrown cores cores' = put_grows cores i d (moved_grows (cores i) m) in
        let raises = each-weaker (λ (x : MarkRaise). IsSafe cores x.ring x.mark)
        (λ (x : MarkRaise). IsSafe cores' x.ring x.mark) (λ x s. safe_grows cores cores' g x.ring x.mark s) in
        let reports = each-weaker (λ (x : Report). IsSafe cores x.entry.old x.entry.mark)
        (λ (x : Report). IsSafe cores' x.entry.old x.entry.mark)
        (λ x s. safe_grows cores cores' g x.entry.old x.entry.mark s) in
        record {
          raises = put-each (λ q (x : Core A). Each (λ (x : MarkRaise). IsSafe cores' x.ring x.mark) x.raises) cores i d
              (λ q n. raises (cores q).raises (safe.raises q)) (raises d.raises (raises_moved m h));
          reports = put-each (λ q (x : Core A). Each (λ (x : Report). IsSafe cores' x.entry.old x.entry.mark)
              x.reports) cores i d (λ q n. reports (cores q).reports (safe.reports q))
              (reports d.reports (reports_moved m));
        }
