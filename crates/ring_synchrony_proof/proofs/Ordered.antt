-- The rings that a core installed, the last one first: their numbers fall, and none is above the running ring or the
-- one that is entered.
use Rattle.std.proofs.Common.{◌≡◌, ℕ, ◌<◌, ◌≤◌, ◌⊎◌, inl, inr, List, [], ◌∷◌, refl, ap, sym, ◌∙◌, subst, arith}
use Rattle.ring_base.specs.declared.state.State.{State}
use Rattle.ring_base.specs.declared.state.State.TheVariants.{Gather, Commit, Recovery, Operational, Stopped}
use Rattle.ring_wire.specs.declared.frame.Frame.{Frame}
use Rattle.ring_core_spec.specs.Commits.{Configuration}
use Rattle.ring_core_spec.specs.State.{Core, floor, opening}
use Rattle.ring_core_proof.specs.LawConditions.{IsFalling}
use Rattle.ring_core_proof.specs.Moves.{Move, Idles, Enters, Learns, Visits, Takes, Installs, core_after_move, MayMove}
use Rattle.ring_core_proof.proofs.KeptByMoves.{IsKeptByMoves}

abbrev pub IsWaiting : State → Type 0
IsWaiting s = (s ≡ Commit) ⊎ (s ≡ Recovery)

pub record IsOrdered (state : State) (running installed : Configuration) (installs : List Configuration) : Type 0 where
  pub older : List Configuration
  pub newest : installs ≡ installed ∷ older
  pub falls : IsFalling (installed ∷ older)
  pub below : installed.ring.seq ≤ running.ring.seq
  pub apart : IsWaiting state → installed.ring.seq < running.ring.seq

abbrev pub Ordered : {A : Type 0} → Core A → Type 0
Ordered c = IsOrdered c.state c.running c.installed c.installs

gathers_not : (s : State) → s ≡ Gather → IsWaiting s → ⊥
gathers_not s e (inl w) = (let q : Gather ≡ Commit = sym e ∙ w in let n : ⊥ = cc in n)
gathers_not s e (inr w) = (let q : Gather ≡ Recovery = sym e ∙ w in let n : ⊥ = cc in n)

stops_not : (s : State) → s ≡ Stopped → IsWaiting s → ⊥
stops_not s e (inl w) = (let q : Stopped ≡ Commit = sym e ∙ w in let n : ⊥ = cc in n)
stops_not s e (inr w) = (let q : Stopped ≡ Recovery = sym e ∙ w in let n : ⊥ = cc in n)

operates_not : (s : State) → s ≡ Operational → IsWaiting s → ⊥
operates_not s e (inl w) = (let q : Operational ≡ Commit = sym e ∙ w in let n : ⊥ = cc in n)
operates_not s e (inr w) = (let q : Operational ≡ Recovery = sym e ∙ w in let n : ⊥ = cc in n)

pub moved_ordered : {A : Type 0} → (received : Frame A → Type 0) (c : Core A) (m : Move A) → MayMove received c m → Ordered c → Ordered (core_after_move c m)
moved_ordered received c (Idles state gathering last_sent queue sends) h o =
    record {
      older = o.older;
      newest = o.newest;
      falls = o.falls;
      below = o.below;
      apart = λ w. elim (h.leaves) [
        | inl same ↦ o.apart (subst IsWaiting same w)
        | inr other ↦ elim other [ inl g ↦ absurd (gathers_not state g w) | inr s ↦ absurd (stops_not state s w) ]
      ];
    }
moved_ordered received c (Enters k) h o =
    let a : c.installed.ring.seq ≤ floor c = o.below in
    let b : floor c < k.ring.seq = h.above in
    record { older = o.older; newest = o.newest; falls = o.falls; below = omega (arith, a, b); apart = λ w. omega (arith, a, b) }
moved_ordered received c (Learns k) h o = record { older = o.older; newest = o.newest; falls = o.falls; below = o.below; apart = λ w. o.apart (inl h.state) }
moved_ordered received c (Visits t fresh requests again queue) h o = record {
  older = o.older;
  newest = o.newest;
  falls = o.falls;
  below = o.below;
  apart = o.apart;
}
moved_ordered received c (Takes x) h o = record { older = o.older; newest = o.newest; falls = o.falls; below = o.below; apart = o.apart }
moved_ordered received c Installs h o =
    record {
      older = c.installed ∷ o.older;
      newest = ap (λ xs. c.running ∷ xs) o.newest;
      falls = (o.apart (inr h.state), o.falls);
      below = omega arith;
      apart = λ w. absurd (operates_not Operational refl w);
    }

pub ordering : {A : Type 0} → IsKeptByMoves (Ordered {A = A})
ordering = record { moves = moved_ordered }

pub opening_ordered : (A : Type 0) → (n me : ℕ) → Ordered (opening {A = A} n me)
opening_ordered A n me =
    record { older = []; newest = refl; falls = tt; below = omega arith; apart = λ w. absurd (gathers_not Gather refl w) }
