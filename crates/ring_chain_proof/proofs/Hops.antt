-- The commit tokens of a run: each is a hop with the reports of its first members, and two of one ring name the same
-- members.
use Rattle.std.proofs.Common.{◌≡◌, ℕ, suc, ◌-◌, ◌*◌, ◌%◌, min, ◌≤◌, inl, inr, true, ◌&&◌, ◌==◌, List, [], ◌∷◌, length, Some, refl, ap, sym, subst, arith}
use Rattle.std.specs.Prelude.{not, nat_eq, nat_le, filter_map, slice_get, slice_index}
use Rattle.std.specs.List.{AllByRecursion as Each, list_all}
use Rattle.std.specs.Cmp.Lexicographic.{pointwise}
use Rattle.std.proofs.lemmas.Bool.{cond_both, cases_Bool, and_from, or_left, or_right, eq-eqb, le-leb, both_ways}
use Rattle.ring_base.specs.Rings.{same_ring}
use Rattle.ring_base.specs.Processors.{only, at, size, elements}
use Rattle.ring_base.specs.declared.ring_id.RingId.{RingId}
use Rattle.ring_base.proofs.Each.{each-filter_map}
use Rattle.ring_wire.specs.declared.commit.CommitToken.{CommitToken}
use Rattle.ring_wire.specs.declared.entries.CommitEntry.{CommitEntry}
use Rattle.ring_wire.specs.declared.frame.Frame.{Frame}
use Rattle.ring_wire.specs.declared.frame.Frame.TheVariants.{Message as MessageFrame, Token as TokenFrame, Join as JoinFrame}
use Rattle.ring_wire.specs.declared.frame.Frame.TheVariants.{Commit as CommitFrame}
use Rattle.ring_base.proofs.SameRing.{ring_same, same-self}
use Rattle.ring_core_spec.specs.Commits.{same_entry, receiver, is_own}
use Rattle.ring_core_spec.specs.State.{Core, Report}
use Rattle.ring_core_proof.specs.FactWords.{IsIn}
use Rattle.ring_core_proof.specs.Worlds.{Transmission, World}
use Rattle.ring_core_proof.specs.CommitRounds.{all_pairs, report_for, are_reports_of_members, is_handed_on, is_hop, is_hop_if_commit}
use Rattle.ring_core_proof.specs.CommitRounds.{are_hops, commit_in, commits_of, agree_on_members}
use Rattle.ring_chain_proof.specs.ChainWords.{Chains, IsRingOf}
use Rattle.ring_chain_proof.proofs.GenuineFrames.{IsHop, IsRight, AreRight}
use Rattle.ring_chain_proof.proofs.Filed.{Filed}
use Rattle.ring_chain_proof.proofs.Rings.{AreRings, one_members}
use Rattle.ring_chain_proof.proofs.AllLayers.{Holds}

-- Reports as tests

pointwise-self : (xs : List ℕ) → pointwise nat_eq xs xs ≡ true
pointwise-self [] = refl
pointwise-self (x ∷ xs) = and_from (nat_eq x x) (pointwise nat_eq xs xs) (eq-eqb x x refl) (pointwise-self xs)

entry-self : (e : CommitEntry) → same_entry e e ≡ true
entry-self e =
    let a = and_from (same_ring e.old e.old) (e.front == e.front) (same-self e.old) (eq-eqb e.front e.front refl) in
    let b = and_from (same_ring e.old e.old && (e.front == e.front)) (e.mark == e.mark) a (eq-eqb e.mark e.mark refl) in
    and_from (same_ring e.old e.old && (e.front == e.front) && (e.mark == e.mark)) (pointwise nat_eq e.held e.held) b (pointwise-self e.held)

-- where a ring has one report, that is the one found
report_found : (ring : RingId) (e : CommitEntry) (rs : List Report) → ((x : Report) → IsIn x rs → x.ring ≡ ring → x.entry ≡ e) →
    IsIn (record { ring = ring; entry = e }) rs → report_for ring rs ≡ Some e
report_found ring e [] f h = absurd h
report_found ring e (r ∷ rs) f h =
    cond_both (same_ring r.ring ring) (Some r.entry) (report_for ring rs) (λ o. o ≡ Some e)
    (λ t. ap Some (f r (inl refl) (ring_same r.ring ring t)))
    (λ t. elim h [
      | inl q ↦ absurd (both_ways (same_ring r.ring ring) t (subst (λ s. same_ring s ring ≡ true) (ap (λ (x : Report). x.ring) q) (same-self ring)))
      | inr k ↦ report_found ring e rs (λ x i. f x (inr i)) k
    ])

reports_true : {A : Type 0} → (cores : ℕ → Core A) → ((q : ℕ) → Filed (cores q)) → (ring : RingId) (is : List ℕ) (es : List CommitEntry) →
    length es ≤ length is →
    ((x : ℕ) (e : CommitEntry) → slice_get es x ≡ Some e → IsIn (record { ring = ring; entry = e }) (cores (slice_index is x)).reports) →
    are_reports_of_members cores ring is es ≡ true
reports_true cores filed ring is [] l h = refl
reports_true cores filed ring [] (e ∷ es) l h = absurd (omega arith)
reports_true cores filed ring (i ∷ is) (e ∷ es) l h =
    let mine : IsIn (record { ring = ring; entry = e }) (cores i).reports = h 0 e refl in
    let found : report_for ring (cores i).reports ≡ Some e =
    report_found ring e (cores i).reports (λ x k s. ap (λ (x : Report). x.entry) ((filed i).one_report x (record { ring = ring; entry = e }) k mine s)) mine in
    and_from (is_own e (report_for ring (cores i).reports)) (are_reports_of_members cores ring is es)
    (subst (λ o. is_own e o ≡ true) (sym found) (entry-self e))
    (reports_true cores filed ring is es (omega arith) (λ x d s. h (suc x) d s))

-- Hops

module _ {A : Type 0} (visits : Chains A) (cores : ℕ → Core A) (filed : (q : ℕ) → Filed (cores q)) (are : AreRings cores) where
  hop_true : (from to : ℕ) (k : CommitToken) → IsHop cores from to k → is_hop cores k ≡ true
  hop_true from to k h =
      let count : length k.entries ≡ min k.hop (size k.members) = h.count in
      let a = and_from (nat_le 1 k.hop) (nat_le k.hop (2 * size k.members)) (le-leb 1 k.hop h.low) (le-leb k.hop (2 * size k.members) h.high) in
      let b = and_from (nat_le 1 k.hop && nat_le k.hop (2 * size k.members))
      (length k.entries == min k.hop (size k.members)) a (eq-eqb (length k.entries) (min k.hop (size k.members))
      count) in
      and_from (nat_le 1 k.hop && nat_le k.hop (2 * size k.members)
      && (length k.entries == min k.hop (size k.members))) (are_reports_of_members cores k.ring (elements k.members) k.entries) b
      (reports_true cores filed k.ring (elements k.members) k.entries (omega arith) h.reports)

  handed_true : (f : Transmission A) (k : CommitToken) → IsHop cores f.from f.to k → is_handed_on f k ≡ true
  handed_true f k h = and_from (f.from == at k.members ((k.hop - 1) % size k.members)) (f.to == only (receiver k)) (eq-eqb _ _ h.sent_by) (eq-eqb _ _ h.sent_to)

  frame_true : (f : Transmission A) (frame : Frame A) → IsRight visits cores f.from f.to frame → is_hop_if_commit cores f frame ≡ true
  frame_true f (CommitFrame k) h = and_from (is_handed_on f k) (is_hop cores k) (handed_true f k h) (hop_true f.from f.to k h)
  frame_true f (MessageFrame x) h = refl
  frame_true f (TokenFrame t) h = refl
  frame_true f (JoinFrame j) h = refl

  frames_true : (frames : List (Transmission A)) → AreRight visits cores frames → list_all (λ (f : Transmission A). is_hop_if_commit cores f f.frame) frames ≡ true
  frames_true [] h = refl
  frames_true (f ∷ frames) h = and_from (is_hop_if_commit cores f f.frame)
      (list_all (λ (f : Transmission A). is_hop_if_commit cores f f.frame) frames) (frame_true f f.frame h.0)
      (frames_true frames h.1)

  -- Members

  commit_right : (from to : ℕ) (frame : Frame A) (k : CommitToken) → IsRight visits cores from to frame → commit_in frame ≡ Some k →
      IsRingOf cores k.ring k.members
  commit_right from to (CommitFrame l) k h e = (let same : l ≡ k = cc in subst (λ (k : CommitToken). IsRingOf cores k.ring k.members) same h.ring_of)
  commit_right from to (MessageFrame x) k h e = absurd (let n : ⊥ = cc in n)
  commit_right from to (TokenFrame t) k h e = absurd (let n : ⊥ = cc in n)
  commit_right from to (JoinFrame j) k h e = absurd (let n : ⊥ = cc in n)

  abbrev Known : CommitToken → Type 0
  Known k = IsRingOf cores k.ring k.members

  agree_true : (k l : CommitToken) → Known k → Known l → agree_on_members k l ≡ true
  agree_true k l hk hl =
      elim (cases_Bool (same_ring k.ring l.ring)) [
        | inl t ↦ or_right (not (same_ring k.ring l.ring)) (k.members == l.members)
            (eq-eqb k.members l.members (one_members cores are k.ring k.members l.members hk
            (subst (λ r. IsRingOf cores r l.members) (sym (ring_same k.ring l.ring t)) hl)))
        | inr f ↦ or_left (not (same_ring k.ring l.ring)) (k.members == l.members) (ap not f)
      ]

  all_agree : (k : CommitToken) (ks : List CommitToken) → Known k → Each Known ks → list_all (agree_on_members k) ks ≡ true
  all_agree k [] h hs = refl
  all_agree k (l ∷ ks) h hs = and_from (agree_on_members k l) (list_all (agree_on_members k) ks) (agree_true k l h hs.0) (all_agree k ks h hs.1)

  pairs_agree : (ks : List CommitToken) → Each Known ks → all_pairs agree_on_members ks ≡ true
  pairs_agree [] hs = refl
  pairs_agree (k ∷ ks) hs = and_from (list_all (agree_on_members k) ks) (all_pairs agree_on_members ks) (all_agree k ks hs.0 hs.1) (pairs_agree ks hs.1)

  commits_known : (frames : List (Transmission A)) → AreRight visits cores frames → Each Known (filter_map (λ (f : Transmission A). commit_in f.frame) frames)
  commits_known frames h = each-filter_map (λ (f : Transmission A). IsRight visits cores f.from f.to f.frame) Known
      (λ (f : Transmission A). commit_in f.frame) (λ f k r e. commit_right f.from f.to f.frame k r e) frames h

pub hops_of_runs : {A : Type 0} → (w : World A) → Holds w.cores w.frames → are_hops w ≡ true
hops_of_runs w p = frames_true p.visits w.cores p.filed p.rings w.frames p.sent.right

pub members_of_runs : {A : Type 0} → (w : World A) → Holds w.cores w.frames → all_pairs agree_on_members (commits_of w) ≡ true
members_of_runs w p = pairs_agree p.visits w.cores p.filed p.rings (commits_of w) (commits_known p.visits w.cores p.filed p.rings w.frames p.sent.right)
