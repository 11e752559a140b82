-- The facts that a core knows of the messages that it sent and of the Ends that it holds: each move keeps them.
use Rattle.std.proofs.Common.{◌≡◌, ℕ, List}
use Rattle.ring_base.specs.declared.state.State.TheVariants.{Gather, Commit, Recovery, Operational}
use Rattle.ring_wire.specs.declared.frame.Frame.{Frame}
use Rattle.ring_core_spec.specs.State.{Core, opening}
use Rattle.ring_core_proof.specs.declared.event.RingEvent.{RingEvent}
use Rattle.ring_core_proof.specs.Worlds.{run, unformed}
use Rattle.ring_core_proof.specs.Moves.{Move, Idles, Enters, Learns, Visits, Takes, Installs, core_after_move, MayMove, AllAreUsers}
use Rattle.ring_core_proof.proofs.Ended.{IsOver, ending, opening_over}
use Rattle.ring_core_proof.proofs.KeptByMoves.{IsKeptByMoves, everywhere}
use Rattle.ring_core_proof.proofs.OwnEverywhere.{Holds, moved_holds}
use Rattle.ring_core_proof.proofs.OwnRings.{opening_rings}
use Rattle.ring_synchrony_proof.specs.Recovery.{HoldsEnds}
use Rattle.ring_synchrony_proof.proofs.Unwrapped.{moved_ends, opening_ends}
use Rattle.ring_synchrony_proof.specs.Ends.{KeepsOrder}
use Rattle.ring_synchrony_proof.proofs.SendsAfterEnd.{moved_last}
use Rattle.ring_synchrony_proof.proofs.Ends.{IsBegun, moved_begun, moved_users, moved_reports}
use Rattle.ring_synchrony_proof.proofs.OwnPlanReport.{KnowsOwn, moved_own}
use Rattle.ring_synchrony_proof.proofs.WrapsBeforeEnd.{moved_handed}

pub record IsOrderly {A : Type 0} (c : Core A) : Type 0 where
  pub local : Holds c
  pub over : IsOver c
  pub queued : AllAreUsers c.queue
  pub held_ends : HoldsEnds c
  pub begun : IsBegun c
  pub own : KnowsOwn c
  pub order : KeepsOrder c

moved_queue : {A : Type 0} → (received : Frame A → Type 0) (c : Core A) (m : Move A) → MayMove received c m → AllAreUsers c.queue → AllAreUsers (core_after_move c m).queue
moved_queue received c (Idles state gathering last_sent queue sends) h q = h.queued q
moved_queue received c (Enters k) h q = q
moved_queue received c (Learns k) h q = q
moved_queue received c (Visits t fresh requests again queue) h q = h.queued q
moved_queue received c (Takes x) h q = q
moved_queue received c Installs h q = q

pub moved_orderly : {A : Type 0} → (received : Frame A → Type 0) (c : Core A) (m : Move A) → MayMove received c m → IsOrderly c → IsOrderly (core_after_move c m)
moved_orderly received c m h p =
    let rings = (p.local).rings in
    record {
      local = moved_holds received c m h p.local;
      over = ending.moves received c m h p.over;
      queued = moved_queue received c m h p.queued;
      held_ends = moved_ends received c m h p.held_ends;
      begun = moved_begun received c m h rings p.begun;
      own = moved_own received c m h (p.local).fit (p.local).messages p.own;
      order = record {
        last = moved_last received c m h (p.local).own p.queued (p.over).ended (p.order).last;
        users = moved_users received c m h rings p.held_ends p.begun (p.order).users;
        reports = moved_reports received c m h rings p.held_ends (p.order).reports;
        ends = moved_handed received c m h p.own p.queued (p.order).ends;
      };
    }

pub ordering : {A : Type 0} → IsKeptByMoves (IsOrderly {A = A})
ordering = record { moves = moved_orderly }

opening_local : (A : Type 0) → (n me : ℕ) → Holds (opening {A = A} n me)
opening_local A n me =
    record {
      fit = record { window = tt; visits = tt; raised = tt };
      rings = opening_rings n me;
      facts = record {
        held = tt;
        turns = tt;
        raises = tt;
        plans = tt;
        reports = tt;
        one_report = λ x y i. absurd i;
        one_plan = λ k l i. absurd i;
        unknown = λ s. absurd (let q : Gather ≡ Commit = s in let n : ⊥ = cc in n);
      };
      messages = record { numbered = tt; one = λ x y i. absurd i };
      own = tt;
      visits = tt;
      reports = record { newest = λ s. absurd (let q : Gather ≡ Commit = s in let n : ⊥ = cc in n); all_true = tt };
    }

pub opening_orderly : (A : Type 0) → (n me : ℕ) → IsOrderly (opening {A = A} n me)
opening_orderly A n me =
    record {
      local = opening_local A n me;
      over = opening_over n me;
      queued = tt;
      held_ends = opening_ends A n me;
      begun = record { runs = λ s. absurd (let q : Gather ≡ Operational = s in let x : ⊥ = cc in x); turns = tt };
      own = λ s. absurd (let q : Gather ≡ Recovery = s in let x : ⊥ = cc in x);
      order = record { last = λ x y a b. absurd a.there; users = tt; reports = tt; ends = tt };
    }

pub all_orderly : {A : Type 0} → (n : ℕ) (events : List (RingEvent A)) (q : ℕ) → IsOrderly ((run (unformed n) events).cores q)
all_orderly {A} n events q = everywhere IsOrderly ordering (unformed n) events (λ i. opening_orderly A n i) q

pub all_keep_order : {A : Type 0} → (n : ℕ) (events : List (RingEvent A)) (q : ℕ) → KeepsOrder ((run (unformed n) events).cores q)
all_keep_order n events q = (all_orderly n events q).order
