-- A core's own reports and plans: one report for each ring, none of a ring above the floor, and in Commit no plan yet
-- of the ring taken part in.
use Rattle.std.proofs.Common.{◌≡◌, ℕ, ◌<◌, ◌≤◌, inl, inr, List, ◌∷◌, ap, sym, ◌∙◌, arith}
use Rattle.std.specs.List.{AllByRecursion as Each}
use Rattle.ring_base.specs.declared.ring_id.RingId.{RingId}
use Rattle.ring_base.specs.declared.state.State.{State}
use Rattle.ring_base.specs.declared.state.State.TheVariants.{Gather, Commit, Recovery, Operational, Stopped}
use Rattle.ring_base.proofs.Each.{each-weaker}
use Rattle.ring_wire.specs.declared.commit.CommitToken.{CommitToken}
use Rattle.ring_wire.specs.declared.frame.Frame.{Frame}
use Rattle.ring_core_spec.specs.State.{Core, Report, floor}
use Rattle.ring_core_spec.specs.Views.{own_entry}
use Rattle.ring_core_proof.specs.FactWords.{IsIn}
use Rattle.ring_core_proof.specs.Moves.{Move, Idles, Enters, Learns, Visits, Takes, Installs, core_after_move, MayMove}
use Rattle.ring_core_proof.proofs.InLists.{in-each}

pub record IsFiled (state : State) (top : ℕ) (reports : List Report) (plans : List CommitToken) : Type 0 where
  pub reports_low : Each (λ (x : Report). x.ring.seq ≤ top) reports
  pub one_report : (x y : Report) → IsIn x reports → IsIn y reports → x.ring ≡ y.ring → x ≡ y
  pub plans_low : Each (λ (k : CommitToken). k.ring.seq ≤ top) plans
  pub unplanned : state ≡ Commit → Each (λ (k : CommitToken). k.ring.seq < top) plans

abbrev pub Filed : {A : Type 0} → Core A → Type 0
Filed c = IsFiled c.state (floor c) c.reports c.plans

report_more : (top : ℕ) (reports : List Report) (new : Report) → top < new.ring.seq → Each (λ (x : Report). x.ring.seq ≤ top) reports →
    ((x y : Report) → IsIn x reports → IsIn y reports → x.ring ≡ y.ring → x ≡ y) → (x y : Report) → IsIn x (new ∷ reports) → IsIn y (new ∷ reports) →
    x.ring ≡ y.ring → x ≡ y
report_more top reports new l low one x y (inl a) (inl b) e = a ∙ sym b
report_more top reports new l low one x y (inl a) (inr k) e =
    (let p : y.ring.seq ≤ top = in-each (λ (x : Report). x.ring.seq ≤ top) y reports low k in let q : x.ring.seq
    ≡ new.ring.seq = ap (λ (r : Report). r.ring.seq) a in let s : x.ring.seq ≡ y.ring.seq =
    ap (λ (r : RingId). r.seq) e in absurd (omega arith))
report_more top reports new l low one x y (inr h) (inl b) e =
    (let p : x.ring.seq ≤ top = in-each (λ (x : Report). x.ring.seq ≤ top) x reports low h in let q : y.ring.seq
    ≡ new.ring.seq = ap (λ (r : Report). r.ring.seq) b in let s : x.ring.seq ≡ y.ring.seq =
    ap (λ (r : RingId). r.seq) e in absurd (omega arith))
report_more top reports new l low one x y (inr h) (inr k) e = one x y h k e

pub moved_filed : {A : Type 0} → (received : Frame A → Type 0) (c : Core A) (m : Move A) → MayMove received c m → Filed c → Filed (core_after_move c m)
moved_filed received c (Enters k) h f =
    let l : floor c < k.ring.seq = h.above in
    record {
      reports_low = (omega arith, each-weaker _ _ (λ (x : Report) p. omega (arith, p, l)) c.reports f.reports_low);
      one_report = report_more (floor c) c.reports (record { ring = k.ring; entry = own_entry c }) l f.reports_low f.one_report;
      plans_low = each-weaker _ _ (λ (x : CommitToken) p. omega (arith, p, l)) c.plans f.plans_low;
      unplanned = λ s. each-weaker _ _ (λ (x : CommitToken) p. omega (arith, p, l)) c.plans f.plans_low;
    }
moved_filed received c (Learns k) h f =
    let e : k.ring.seq ≡ floor c = ap (λ (r : RingId). r.seq) h.ring in
    record {
      reports_low = f.reports_low;
      one_report = f.one_report;
      plans_low = (omega (arith, e), f.plans_low);
      unplanned = λ s. absurd (let q : Recovery ≡ Commit = s in let n : ⊥ = cc in n);
    }
moved_filed received c (Idles state gathering last_sent queue sends) h f =
    record {
      reports_low = f.reports_low;
      one_report = f.one_report;
      plans_low = f.plans_low;
      unplanned = λ s. elim (h.leaves) [
        | inl same ↦ f.unplanned (sym same ∙ s)
        | inr other ↦ elim other [
          | inl g ↦ absurd (let q : Gather ≡ Commit = sym g ∙ s in let n : ⊥ = cc in n)
          | inr t ↦ absurd (let q : Stopped ≡ Commit = sym t ∙ s in let n : ⊥ = cc in n)
        ]
      ];
    }
moved_filed received c (Visits t fresh requests again queue) h f = f
moved_filed received c (Takes x) h f = f
moved_filed received c Installs h f = record {
  reports_low = f.reports_low;
  one_report = f.one_report;
  plans_low = f.plans_low;
  unplanned = λ s. absurd (let q : Operational ≡ Commit = s in let n : ⊥ = cc in n);
}
