-- All local facts, of one core after any inputs and of each core of every world: each move keeps them.
use Rattle.std.proofs.Common.{◌≡◌, ℕ, List}
use Rattle.ring_base.specs.declared.state.State.TheVariants.{Gather, Commit}
use Rattle.ring_wire.specs.declared.frame.Frame.{Frame}
use Rattle.ring_core_spec.specs.declared.input.Input.{Input}
use Rattle.ring_core_spec.specs.State.{Core, opening}
use Rattle.ring_core_spec.specs.Stepping.{after_inputs}
use Rattle.ring_core_proof.specs.declared.event.RingEvent.{RingEvent}
use Rattle.ring_core_proof.specs.Worlds.{run, unformed}
use Rattle.ring_core_proof.specs.Moves.{Move, Idles, Enters, Learns, Visits, Takes, Installs, core_after_move, MayMove}
use Rattle.ring_core_proof.proofs.KeptByMoves.{IsKeptByMoves, always, everywhere}
use Rattle.ring_core_proof.proofs.WithinWindow.{IsCoreInWindow, moved_fits}
use Rattle.ring_core_proof.specs.CoreInvariants.{RingsFit, FactsFit, VisitsRise, LocalFacts}
use Rattle.ring_core_proof.proofs.OwnRings.{moved_rings, opening_rings}
use Rattle.ring_core_proof.proofs.OwnFacts.{moved_facts}
use Rattle.ring_core_proof.proofs.OwnMessages.{AreFit, moved_fit, AreHeldOf, moved_own}
use Rattle.ring_core_proof.proofs.OwnReports.{AreTrue, moved_true, exact_now}

pub record Holds {A : Type 0} (c : Core A) : Type 0 where
  pub fit : IsCoreInWindow c
  pub rings : RingsFit c
  pub facts : FactsFit c
  pub messages : AreFit c.held
  pub own : AreHeldOf c.me c.held c.turns
  pub visits : VisitsRise c.turns
  pub reports : AreTrue c

moved_rising : {A : Type 0} → (received : Frame A → Type 0) (c : Core A) (m : Move A) → MayMove received c m → VisitsRise c.turns → VisitsRise (core_after_move c m).turns
moved_rising received c (Visits t fresh requests again queue) h r = (h.newer, r)
moved_rising received c (Idles state gathering last_sent queue sends) h r = r
moved_rising received c (Enters k) h r = r
moved_rising received c (Learns k) h r = r
moved_rising received c (Takes x) h r = r
moved_rising received c Installs h r = r

pub moved_holds : {A : Type 0} → (received : Frame A → Type 0) (c : Core A) (m : Move A) → MayMove received c m → Holds c → Holds (core_after_move c m)
moved_holds received c m h p =
    record {
      fit = moved_fits received c m h p.fit;
      rings = moved_rings received c m h p.rings;
      facts = moved_facts received c m h p.rings p.facts;
      messages = moved_fit received c m h p.rings p.messages;
      own = moved_own c m p.own;
      visits = moved_rising received c m h p.visits;
      reports = moved_true received c m h p.fit p.reports;
    }

holding : {A : Type 0} → IsKeptByMoves (Holds {A = A})
holding = record { moves = moved_holds }

opening_holds : {A : Type 0} → (n me : ℕ) → Holds {A = A} (opening n me)
opening_holds n me =
    record {
      fit = record { window = tt; visits = tt; raised = tt };
      rings = opening_rings n me;
      facts = record {
        held = tt;
        turns = tt;
        raises = tt;
        plans = tt;
        reports = tt;
        one_report = λ x y i. absurd i;
        one_plan = λ k l i. absurd i;
        unknown = λ s. absurd (let q : Gather ≡ Commit = s in let n : ⊥ = cc in n);
      };
      messages = record { numbered = tt; one = λ x y i. absurd i };
      own = tt;
      visits = tt;
      reports = record { newest = λ s. absurd (let q : Gather ≡ Commit = s in let n : ⊥ = cc in n); all_true = tt };
    }

pub local_of : {A : Type 0} → (c : Core A) → Holds c → LocalFacts c
local_of c p =
    record {
      rings = p.rings;
      facts = p.facts;
      messages = record { from_one = (p.messages).numbered; one = (p.messages).one; own = p.own };
      visits = p.visits;
      reports = record { exact = exact_now c p.fit p.messages; newest = (p.reports).newest; all_true = (p.reports).all_true };
    }

after_opening : {A : Type 0} → (n me : ℕ) (inputs : List (Input A)) → Holds (after_inputs (opening n me) inputs)
after_opening n me inputs = always Holds holding (opening n me) inputs (opening_holds n me)

-- The laws

pub local_facts : {A : Type 0} → (n me : ℕ) (inputs : List (Input A)) → LocalFacts (after_inputs (opening n me) inputs)
local_facts n me inputs = local_of (after_inputs (opening n me) inputs) (after_opening n me inputs)

pub local_everywhere : {A : Type 0} → (n i : ℕ) (events : List (RingEvent A)) → LocalFacts ((run (unformed n) events).cores i)
local_everywhere n i events = local_of ((run (unformed n) events).cores i) (everywhere Holds holding (unformed n) events (λ q. opening_holds n q) i)
