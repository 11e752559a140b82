-- All processors that recover in a ring have one plan: the full commit token with which they enter Recovery, with the
-- reports of all members.

-- Each member wrote one report when it took part in the ring.
use Rattle.std.proofs.Common.{◌≡◌, ℕ, suc, min, ◌≤◌, List, [], ◌∷◌, ◌++◌, length, Some, refl, ap, sym, ◌∙◌, subst, arith}
use Rattle.std.specs.Prelude.{slice_get}
use Rattle.std.specs.List.{AllByRecursion as Each}
use Rattle.ring_base.specs.Processors.{at, size}
use Rattle.ring_base.proofs.Each.{each-weaker}
use Rattle.ring_wire.specs.declared.commit.CommitToken.{CommitToken}
use Rattle.ring_wire.specs.declared.frame.Frame.TheVariants.{Commit as CommitFrame}
use Rattle.ring_core_spec.specs.State.{Core, Report}
use Rattle.ring_core_proof.specs.FactWords.{IsIn}
use Rattle.ring_core_proof.specs.declared.event.RingEvent.{RingEvent}
use Rattle.ring_core_proof.specs.Worlds.{Transmission, with_core, transmissions_from, run, unformed}
use Rattle.ring_core_proof.specs.Moves.{Move, Idles, Enters, Learns, Visits, Takes, Installs, core_after_move, sends_of, MayMove, IsReceivedFrame}
use Rattle.ring_core_proof.proofs.InLists.{in-each}
use Rattle.ring_core_proof.proofs.Lifting.{kept_run}
use Rattle.ring_chain_proof.specs.ChainWords.{IsRingOf}
use Rattle.ring_chain_proof.proofs.GenuineFrames.{IsHop}
pub use Rattle.ring_chain_proof.specs.ChainFacts.{IsPlan, ArePlans}
use Rattle.ring_chain_proof.specs.ChainFacts.{HaveOnePlan, ReportsAreSafe}
use Rattle.ring_chain_proof.proofs.FactsGrow.{AllGrown, put-each, put_grows, moved_grows}
use Rattle.ring_chain_proof.proofs.Filed.{Filed}
use Rattle.ring_chain_proof.proofs.Rings.{AreRings, came_right, one_members}
use Rattle.ring_chain_proof.proofs.AllLayers.{Holds, holding, opening_holds, unformed_holds}

plan_grows : {A : Type 0} → (old new : ℕ → Core A) → AllGrown old new → (k : CommitToken) → IsPlan old k → IsPlan new k
plan_grows old new g k h = record {
  ring_of = (g k.ring.rep).rings _ h.ring_of;
  count = h.count;
  reports = λ x e s. (g (at k.members x)).reports _ (h.reports x e s);
}

-- all earlier facts, and the plans
pub record HoldsPlans {A : Type 0} (cores : ℕ → Core A) (frames : List (Transmission A)) : Type 0 where
  pub all : Holds cores frames
  pub plans : ArePlans cores

pub learned_plan : {A : Type 0} → (cores : ℕ → Core A) (frames : List (Transmission A)) (i : ℕ) (k : CommitToken) → Holds cores frames →
    MayMove (IsReceivedFrame frames i) (cores i) (Learns k) → IsPlan cores k
learned_plan cores frames i k p h =
    let f = came_right p.visits cores frames i (CommitFrame k) p.sent.right h.from in
    let hop : IsHop cores f.0 f.1 k = f.3 in
    let count : length k.entries ≡ min k.hop (size k.members) = hop.count in
    let second : size k.members ≤ k.hop = h.second in
    record { ring_of = hop.ring_of; count = omega arith; reports = hop.reports }

plans_after : {A : Type 0} → (cores : ℕ → Core A) (frames : List (Transmission A)) (i : ℕ) (m : Move A) → Holds cores frames → ArePlans cores →
    MayMove (IsReceivedFrame frames i) (cores i) m → Each (IsPlan cores) (core_after_move (cores i) m).plans
plans_after cores frames i (Learns k) p h may = (learned_plan cores frames i k p may, h i)
plans_after cores frames i (Idles state gathering last_sent queue sends) p h may = h i
plans_after cores frames i (Enters k) p h may = h i
plans_after cores frames i (Visits t fresh requests again queue) p h may = h i
plans_after cores frames i (Takes x) p h may = h i
plans_after cores frames i Installs p h may = h i

pub plans_moved : {A : Type 0} → (cores : ℕ → Core A) (frames : List (Transmission A)) (i : ℕ) (m : Move A) → 1 ≤ i → MayMove (IsReceivedFrame frames i) (cores i) m →
    HoldsPlans cores frames → HoldsPlans (with_core cores i (core_after_move (cores i) m)) (frames ++ transmissions_from i (sends_of (cores i) m))
plans_moved {A} cores frames i m low h p =
    let d = core_after_move (cores i) m in
    let new = with_core cores i d in
    let g : AllGrown cores new = put_grows cores i d (moved_grows (cores i) m) in
    record {
      all = holding.moves cores frames i m low h p.all;
      plans = put-each (λ q (x : Core A). Each (IsPlan new) x.plans) cores i d
          (λ q n. each-weaker (IsPlan cores) (IsPlan new) (plan_grows cores new g) (cores q).plans (p.plans q))
          (each-weaker (IsPlan cores) (IsPlan new) (plan_grows cores new g) d.plans
          (plans_after cores frames i m p.all p.plans h));
    }

pub plans_hold : {A : Type 0} → (n : ℕ) (events : List (RingEvent A)) → HoldsPlans (run (unformed n) events).cores (run (unformed n) events).frames
plans_hold n events = kept_run HoldsPlans (record { moves = plans_moved }) (unformed n) events (record { all = opening_holds n; plans = λ q. tt })

-- lists that agree at each place are equal
same_lists : {X : Type 0} (xs ys : List X) → length xs ≡ length ys → ((k : ℕ) (x y : X) → slice_get xs k ≡ Some x → slice_get ys k ≡ Some y → x ≡ y) → xs ≡ ys
same_lists [] [] e h = refl
same_lists [] (y ∷ ys) e h = absurd (omega arith)
same_lists (x ∷ xs) [] e h = absurd (omega arith)
same_lists (x ∷ xs) (y ∷ ys) e h = ap (λ z. z ∷ xs) (h 0 x y refl refl) ∙ ap (λ zs. y ∷ zs) (same_lists xs ys (omega arith) (λ k a b s t. h (suc k) a b s t))

pub one_plan : {A : Type 0} → (cores : ℕ → Core A) → AreRings cores → ((q : ℕ) → Filed (cores q)) → (k l : CommitToken) → IsPlan cores k → IsPlan cores l →
    k.ring ≡ l.ring → (k.members ≡ l.members) × (k.entries ≡ l.entries)
one_plan cores are filed k l hk hl e =
    let members : k.members ≡ l.members = one_members cores are k.ring k.members l.members hk.ring_of
    (subst (λ r. IsRingOf cores r l.members) (sym e) hl.ring_of) in (
      members,
      same_lists k.entries l.entries (hk.count ∙ ap size members ∙ sym hl.count) (λ x a b s t.
          let ra : IsIn (record { ring = k.ring; entry = a }) (cores (at k.members x)).reports = hk.reports x a s in
          let rb : IsIn (record { ring = l.ring; entry = b }) (cores (at k.members x)).reports =
          subst (λ m. IsIn (record { ring = l.ring; entry = b }) (cores (at m x)).reports) (sym members)
          (hl.reports x b t) in
          ap (λ (r : Report). r.entry) ((filed (at k.members x)).one_report (record { ring = k.ring; entry = a })
          (record { ring = l.ring; entry = b }) ra rb e)),
    )

pub one_plan_in_runs : {A : Type 0} → (n : ℕ) (events : List (RingEvent A)) → HaveOnePlan (run (unformed n) events).cores
one_plan_in_runs n events p q k l hk hl e =
    let cores = (run (unformed n) events).cores in
    let h = plans_hold n events in
    one_plan cores (h.all).rings (h.all).filed k l (in-each (IsPlan cores) k (cores p).plans (h.plans p) hk)
    (in-each (IsPlan cores) l (cores q).plans (h.plans q) hl) e

pub plans_in_runs : {A : Type 0} → (n : ℕ) (events : List (RingEvent A)) → ArePlans (run (unformed n) events).cores
plans_in_runs n events = (plans_hold n events).plans

pub reports_are_safe : {A : Type 0} → (n : ℕ) (events : List (RingEvent A)) → ReportsAreSafe (run (unformed n) events).cores
reports_are_safe n events = (unformed_holds n events).safe.reports
