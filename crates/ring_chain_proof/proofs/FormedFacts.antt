-- In a formed ring each processor's local facts hold: they hold at the opening, and each move keeps them.
use Rattle.std.proofs.Common.{◌≡◌, ℕ, ◌≤◌, inl, inr, List, [], refl, arith}
use Rattle.std.specs.Prelude.{filter}
use Rattle.ring_base.specs.Members.{everybody_members}
use Rattle.ring_base.specs.declared.state.State.TheVariants.{Commit, Recovery, Operational}
use Rattle.ring_core_spec.specs.Tokens.{first_token}
use Rattle.ring_core_spec.specs.State.{Core, formed_ring_of, formed}
use Rattle.ring_core_spec.specs.Deciding.{Visit}
use Rattle.ring_core_proof.specs.declared.event.RingEvent.{RingEvent}
use Rattle.ring_core_proof.specs.Worlds.{ring_formed, has_effect_on_formed, run_formed}
use Rattle.ring_core_proof.specs.Moves.{Move, Idles, Enters, Learns, Visits, Takes, Installs, core_after_move, IsReceivedFrame}
use Rattle.ring_core_proof.proofs.KeptByMoves.{IsKeptByMoves, Everywhere, everywhere}
use Rattle.ring_core_proof.proofs.StepsAreMoves.{move_of}
use Rattle.ring_core_proof.specs.CoreInvariants.{LocalFacts}
use Rattle.ring_core_proof.proofs.OwnEverywhere.{Holds, moved_holds, local_of}
use Rattle.ring_chain_proof.proofs.FactsGrow.{put-each}
use Rattle.ring_chain_proof.proofs.ChainInRuns.{may_start, formed_runs}

-- a processor of the ring
abbrev HoldsWithin : {A : Type 0} → ℕ → Core A → Type 0
HoldsWithin n c = c.me ≤ n → Holds c

moved_me : {A : Type 0} → (n : ℕ) (c : Core A) (m : Move A) → (core_after_move c m).me ≤ n → c.me ≤ n
moved_me n c (Idles state gathering last_sent queue sends) l = l
moved_me n c (Enters k) l = l
moved_me n c (Learns k) l = l
moved_me n c (Visits t fresh requests again queue) l = l
moved_me n c (Takes x) l = l
moved_me n c Installs l = l

within : {A : Type 0} → (n : ℕ) → IsKeptByMoves (HoldsWithin {A = A} n)
within n = record { moves = λ received c m h p l. moved_holds received c m h (p (moved_me n c m l)) }

-- there are no facts at the opening
holds_formed : {A : Type 0} → (n q : ℕ) → q ≤ n → Holds {A = A} (formed n q)
holds_formed n q l =
    record {
      fit = record { window = tt; visits = tt; raised = tt };
      rings = record {
        runs = ([], refl);
        rise = tt;
        last = ([], refl);
        installs_rise = tt;
        taken_part = (inl refl, tt);
        member = λ proc. ((everybody_members n q).1 (proc.0, l), tt);
        in_order = inl refl;
        operating = λ s. refl;
        changing = λ s. absurd (elim s [
          | inl a ↦ (let q : Operational ≡ Commit = a in let n : ⊥ = cc in n)
          | inr b ↦ (let q : Operational ≡ Recovery = b in let n : ⊥ = cc in n)
        ]);
      };
      facts = record {
        held = tt;
        turns = tt;
        raises = tt;
        plans = tt;
        reports = tt;
        one_report = λ x y i. absurd i;
        one_plan = λ k l i. absurd i;
        unknown = λ s. absurd (let q : Operational ≡ Commit = s in let n : ⊥ = cc in n);
      };
      messages = record { numbered = tt; one = λ x y i. absurd i };
      own = tt;
      visits = tt;
      reports = record { newest = λ s. absurd (let q : Operational ≡ Commit = s in let n : ⊥ = cc in n); all_true = tt };
    }

-- the representative has visited the first token, which is a move
holds_started : {A : Type 0} → (n : ℕ) → 1 ≤ n → Everywhere (HoldsWithin n) (ring_formed {A = A} n)
holds_started {A} n some =
    let c : Core A = formed n 1 in
    let m = move_of c (Visit (first_token (formed_ring_of n).ring)) in
    put-each (λ q (x : Core A). HoldsWithin n x) (formed n) 1 (core_after_move c m) (λ q other l. holds_formed n q l)
    (λ l. moved_holds (IsReceivedFrame [] 1) c m (may_start {A = A} n some (first_token (formed_ring_of n).ring) refl) (holds_formed n 1 some))

pub formed_facts : {A : Type 0} → (n i : ℕ) (events : List (RingEvent A)) → 1 ≤ i → i ≤ n → LocalFacts ((run_formed n events).cores i)
formed_facts {A} n i events low high =
    let some : 1 ≤ n = omega arith in
    let me : ((run_formed n events).cores i).me ≡ i = (formed_runs n some events).rings.me i in
    let all : Everywhere (HoldsWithin n) (run_formed n events) =
    everywhere (HoldsWithin n) (within n) (ring_formed n) (filter has_effect_on_formed events) (holds_started n some) in
    local_of ((run_formed n events).cores i) (all i (omega (arith, me)))
