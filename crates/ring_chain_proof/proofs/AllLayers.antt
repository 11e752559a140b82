-- Facts about all cores and all frames, in every world after all events: each layer is kept by each move.
use Rattle.std.proofs.Common.{◌≡◌, ℕ, ◌≤◌, inl, inr, List, [], ◌++◌, refl, ap, sym, subst}
use Rattle.ring_core_spec.specs.Commits.{Configuration}
use Rattle.ring_core_spec.specs.State.{Core, opening, formed, opening_ring, formed_ring_of}
use Rattle.ring_core_proof.specs.FactWords.{IsIn}
use Rattle.ring_core_proof.specs.declared.event.RingEvent.{RingEvent}
use Rattle.ring_core_proof.specs.Worlds.{Transmission, with_core, transmissions_from, run, unformed}
use Rattle.ring_core_proof.specs.Moves.{Move, core_after_move, sends_of, MayMove, IsReceivedFrame}
use Rattle.ring_core_proof.proofs.Lifting.{IsKeptInWorlds, kept_run}
use Rattle.ring_core_proof.proofs.Rises.{alone_rises}
use Rattle.ring_core_proof.proofs.VisitsByRules.{Turned, moved_turned}
use Rattle.ring_chain_proof.proofs.Filed.{Filed, moved_filed}
use Rattle.ring_chain_proof.specs.ChainWords.{Chains}
use Rattle.ring_chain_proof.proofs.GenuineFrames.{visits_after}
use Rattle.ring_chain_proof.proofs.FactsGrow.{put-each}
use Rattle.ring_chain_proof.proofs.Rings.{AreRings, rings_moved}
use Rattle.ring_chain_proof.specs.ChainFacts.{AreChains}
use Rattle.ring_chain_proof.proofs.Chain.{chains_moved}
use Rattle.ring_chain_proof.proofs.OneText.{AreTexts, texts_moved}
use Rattle.ring_chain_proof.proofs.Safety.{AreSafe, safe_moved}
use Rattle.ring_chain_proof.proofs.Sends.{AreSent, sent_moved}

pub record Holds {A : Type 0} (cores : ℕ → Core A) (frames : List (Transmission A)) : Type 0 where
  -- the visits of each ring, newest first
  pub visits : Chains A
  pub turned : (q : ℕ) → Turned (cores q)
  pub filed : (q : ℕ) → Filed (cores q)
  pub rings : AreRings cores
  pub chains : AreChains visits cores
  pub texts : AreTexts visits cores
  pub safe : AreSafe cores
  pub sent : AreSent visits cores frames

moved_holds : {A : Type 0} → (cores : ℕ → Core A) (frames : List (Transmission A)) (i : ℕ) (m : Move A) → 1 ≤ i → MayMove (IsReceivedFrame frames i) (cores i) m →
    Holds cores frames → Holds (with_core cores i (core_after_move (cores i) m)) (frames ++ transmissions_from i (sends_of (cores i) m))
moved_holds {A} cores frames i m low h p =
    let right = p.sent.right in
    record {
      visits = visits_after p.visits i (cores i) m;
      turned = put-each (λ q (x : Core A). Turned x) cores i (core_after_move (cores i) m) (λ q n. p.turned q)
          (moved_turned (IsReceivedFrame frames i) (cores i) m h (p.turned i));
      filed = put-each (λ q (x : Core A). Filed x) cores i (core_after_move (cores i) m) (λ q n. p.filed q) (moved_filed (IsReceivedFrame frames i) (cores i) m h (p.filed i));
      rings = rings_moved p.visits cores frames i right p.rings m h;
      chains = chains_moved p.visits cores frames i low right p.rings p.chains p.turned m h;
      texts = texts_moved p.visits cores frames i right p.rings p.texts m h;
      safe = safe_moved p.visits cores p.chains p.turned p.safe frames i right m h;
      sent = sent_moved p.visits cores frames i low p.sent p.rings p.chains p.texts p.turned m h;
    }

pub holding : {A : Type 0} → IsKeptInWorlds (Holds {A = A})
holding = record { moves = moved_holds }

-- at an opening nothing was sent, and each core is in one ring, with the same members as its representative
pub opening_holds : {A : Type 0} → (n : ℕ) → Holds {A = A} (opening n) []
opening_holds {A} n =
    record {
      visits = λ r. [];
      turned = λ q. tt;
      filed = λ q. record { reports_low = tt; one_report = λ x y h. absurd h; plans_low = tt; unplanned = λ s. tt };
      rings = record {
        me = λ q. refl;
        rising = λ q. alone_rises (opening_ring q);
        shared = λ q ring members h. elim h [
          | inl e ↦ (let rep : ring.rep ≡ q = ap (λ (p : Configuration). p.ring.rep)
              e in subst (λ j. IsIn (record { ring = ring; members = members }) (opening {A = A} n j).rings) (sym rep)
              (inl e))
          | inr none ↦ absurd none
        ];
      };
      chains = record { rounds = λ r. inl refl; turns = λ q r. refl };
      texts = record { queued = λ q. tt; held = λ q. tt; wraps = λ r. tt };
      safe = record { raises = λ q. tt; reports = λ q. tt };
      sent = record { right = tt; last_sent = λ q s e. absurd (let n : ⊥ = cc in n) };
    }

pub formed_holds : {A : Type 0} → (n : ℕ) → Holds {A = A} (formed n) []
formed_holds {A} n =
    record {
      visits = λ r. [];
      turned = λ q. tt;
      filed = λ q. record { reports_low = tt; one_report = λ x y h. absurd h; plans_low = tt; unplanned = λ s. tt };
      rings = record { me = λ q. refl; rising = λ q. alone_rises (formed_ring_of n); shared = λ q ring members h. h };
      chains = record { rounds = λ r. inl refl; turns = λ q r. refl };
      texts = record { queued = λ q. tt; held = λ q. tt; wraps = λ r. tt };
      safe = record { raises = λ q. tt; reports = λ q. tt };
      sent = record { right = tt; last_sent = λ q s e. absurd (let n : ⊥ = cc in n) };
    }

pub unformed_holds : {A : Type 0} → (n : ℕ) (events : List (RingEvent A)) → Holds (run (unformed n) events).cores (run (unformed n) events).frames
unformed_holds n events = kept_run Holds holding (unformed n) events (opening_holds n)
