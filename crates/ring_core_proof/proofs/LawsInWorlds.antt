-- The laws of one core, for each core of every world.
use Rattle.std.proofs.Common.{◌≡◌, ℕ, ◌+◌, ◌≤◌, true, List}
use Rattle.ring_base.specs.Numbers.{window_size}
use Rattle.ring_base.specs.declared.ring_id.RingId.{RingId}
use Rattle.ring_core_spec.specs.Windows.{holds}
use Rattle.ring_core_spec.specs.Joins.{AllHaveOwnSets}
use Rattle.ring_core_spec.specs.Views.{front, mark}
use Rattle.ring_core_proof.specs.declared.event.RingEvent.{RingEvent}
use Rattle.ring_core_proof.specs.Worlds.{run, unformed}
use Rattle.ring_core_proof.specs.LawConditions.{AreTurnsOf, AreFreshOf, HasEnded}
use Rattle.ring_core_proof.proofs.WithinWindow.{IsCoreInWindow, fitting, mark_below, held_below}
use Rattle.ring_core_proof.proofs.Agrees.{SayingSame, saying_same}
use Rattle.ring_core_proof.proofs.VisitsByRules.{Turned, turned}
use Rattle.ring_core_proof.proofs.Fresh.{Made, making, opening_made}
use Rattle.ring_core_proof.proofs.Ended.{IsOver, ending, opening_over}
use Rattle.ring_core_proof.proofs.KeptByMoves.{Everywhere, everywhere, kept_run}

fits : {A : Type 0} → (n : ℕ) (events : List (RingEvent A)) → Everywhere IsCoreInWindow (run (unformed n) events)
fits n events = everywhere IsCoreInWindow fitting (unformed n) events (λ i. record { window = tt; visits = tt; raised = tt })

pub marks_below : {A : Type 0} → (n i : ℕ) (events : List (RingEvent A)) (ring : RingId)
    → mark ((run (unformed n) events).cores i) ring ≤ front ((run (unformed n) events).cores i) ring
marks_below n i events ring = mark_below ((run (unformed n) events).cores i) ring (fits n events i)

pub all_held_below : {A : Type 0} → (n i : ℕ) (events : List (RingEvent A)) (ring : RingId) (k : ℕ)
    → holds ((run (unformed n) events).cores i).held ring k ≡ true → k ≤ mark ((run (unformed n) events).cores i) ring
    + window_size
all_held_below n i events ring k h = held_below ((run (unformed n) events).cores i) ring k (fits n events i) h

pub all_turns : {A : Type 0} → (n i : ℕ) (events : List (RingEvent A)) →
    AreTurnsOf ((run (unformed n) events).cores i).me ((run (unformed n) events).cores i).held ((run (unformed n) events).cores i).turns
all_turns n i events = everywhere Turned turned (unformed n) events (λ i. tt) i

pub all_fresh : {A : Type 0} → (n i : ℕ) (events : List (RingEvent A)) →
    AreFreshOf ((run (unformed n) events).cores i).me ((run (unformed n) events).cores i).held ((run (unformed n) events).cores i).turns
all_fresh n i events = (kept_run Made making (unformed n) events (λ i. opening_made n i) i).fresh

pub all_same_sets : {A : Type 0} → (n i : ℕ) (events : List (RingEvent A)) → AllHaveOwnSets ((run (unformed n) events).cores i).gathering
all_same_sets n i events = everywhere SayingSame saying_same (unformed n) events (λ i. tt) i

pub all_ended : {A : Type 0} → (n i : ℕ) (events : List (RingEvent A)) → HasEnded ((run (unformed n) events).cores i)
all_ended n i events = (everywhere IsOver ending (unformed n) events (λ i. opening_over n i) i).ended
