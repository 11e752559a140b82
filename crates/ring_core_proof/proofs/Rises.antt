-- The numbers of the rings that a core takes part in strictly rise.
use Rattle.std.proofs.Common.{◌≡◌, ℕ, ◌<◌, ◌≤◌, inl, inr, List, [], ◌∷◌, refl, ap, sym, ◌∙◌, subst, arith}
use Rattle.ring_wire.specs.declared.frame.Frame.{Frame}
use Rattle.ring_core_spec.specs.Commits.{Configuration}
use Rattle.ring_core_spec.specs.declared.input.Input.{Input}
use Rattle.ring_core_spec.specs.State.{Core, floor, opening_ring, opening}
use Rattle.ring_core_spec.specs.Stepping.{after_inputs}
use Rattle.ring_core_proof.specs.FactWords.{IsIn}
use Rattle.ring_core_proof.specs.LawConditions.{IsFalling}
use Rattle.ring_core_proof.specs.Moves.{Move, Idles, Enters, Learns, Visits, Takes, Installs, core_after_move, MayMove}
use Rattle.ring_core_proof.proofs.KeptByMoves.{IsKeptByMoves, always}

-- the running ring is the newest, and above all earlier rings
pub record IsRising (rings : List Configuration) (running : Configuration) : Type 0 where
  pub older : List Configuration
  pub newest : rings ≡ running ∷ older
  pub falls : IsFalling (running ∷ older)

abbrev pub Rising : {A : Type 0} → Core A → Type 0
Rising c = IsRising c.rings c.running

entered_rises : {A : Type 0} → (c : Core A) (next : Configuration) → floor c < next.ring.seq → Rising c → IsRising (next ∷ c.rings) next
entered_rises c next h r =
    record {
      older = c.rings;
      newest = refl;
      falls = (let P : List Configuration → Type 0 = λ rings. IsFalling
          (next ∷ rings) in subst P (sym r.newest) (h, r.falls));
    }

pub moved_rises : {A : Type 0} → (received : Frame A → Type 0) (c : Core A) (m : Move A) → MayMove received c m → Rising c → Rising (core_after_move c m)
moved_rises received c (Enters k) h r = entered_rises c (record { ring = k.ring; members = k.members }) h.above r
moved_rises received c (Idles state gathering last_sent queue sends) h r = r
moved_rises received c (Learns k) h r = r
moved_rises received c (Visits t fresh requests again queue) h r = r
moved_rises received c (Takes x) h r = r
moved_rises received c Installs h r = r

-- the opening ring of a core
pub alone_rises : (ring : Configuration) → IsRising (ring ∷ []) ring
alone_rises ring = record { older = []; newest = refl; falls = tt }

pub rising : {A : Type 0} → IsKeptByMoves (Rising {A = A})
rising = record { moves = moved_rises }

pub falls_of : {A : Type 0} → (c : Core A) → Rising c → IsFalling c.rings
falls_of c r = let P : List Configuration → Type 0 = λ rings. IsFalling rings in subst P (sym r.newest) r.falls

pub rings_fall : {A : Type 0} → (n me : ℕ) (inputs : List (Input A)) → IsFalling (after_inputs (opening n me) inputs).rings
rings_fall n me inputs = falls_of (after_inputs (opening n me) inputs) (always Rising rising (opening n me) inputs (alone_rises (opening_ring me)))

-- No ring is above the running one, and rings of one number are one ring

pub all_below : (x : Configuration) (rest : List Configuration) → IsFalling (x ∷ rest) → (y : Configuration) → IsIn y rest → y.ring.seq < x.ring.seq
all_below x [] f y h = absurd h
all_below x (z ∷ rest) f y (inl e) = (let s : y.ring.seq ≡ z.ring.seq = ap (λ (c : Configuration). c.ring.seq) e in omega (arith, f.0))
all_below x (z ∷ rest) f y (inr h) = (let s : y.ring.seq < z.ring.seq = all_below z rest f.1 y h in omega (arith, f.0))

falling_one : (rings : List Configuration) → IsFalling rings → (x y : Configuration) → IsIn x rings → IsIn y rings → x.ring.seq ≡ y.ring.seq → x ≡ y
falling_one [] f x y h k e = absurd h
falling_one (z ∷ rest) f x y (inl h) (inl k) e = h ∙ sym k
falling_one (z ∷ rest) f x y (inl h) (inr k) e =
    (let l : y.ring.seq < z.ring.seq = all_below z rest f y k in let s : x.ring.seq ≡ z.ring.seq = ap
    (λ (c : Configuration). c.ring.seq) h in absurd (omega arith))
falling_one (z ∷ rest) f x y (inr h) (inl k) e =
    (let l : x.ring.seq < z.ring.seq = all_below z rest f x h in let s : y.ring.seq ≡ z.ring.seq = ap
    (λ (c : Configuration). c.ring.seq) k in absurd (omega arith))
falling_one (z ∷ []) f x y (inr h) (inr k) e = absurd h
falling_one (z ∷ w ∷ rest) f x y (inr h) (inr k) e = falling_one (w ∷ rest) f.1 x y h k e

pub one_ring : {A : Type 0} → (c : Core A) → Rising c → (x y : Configuration) → IsIn x c.rings → IsIn y c.rings → x.ring.seq ≡ y.ring.seq → x ≡ y
one_ring c r = falling_one c.rings (falls_of c r)

pub runs_in : {A : Type 0} → (c : Core A) → Rising c → IsIn c.running c.rings
runs_in c r = let P : List Configuration → Type 0 = λ rings. IsIn c.running rings in subst P (sym r.newest) (inl refl)

pub below_floor : {A : Type 0} → (c : Core A) → Rising c → (x : Configuration) → IsIn x c.rings → x.ring.seq ≤ floor c
below_floor c r x h =
    let P : List Configuration → Type 0 = λ rings. IsIn x rings in
    elim (subst P r.newest h) [
      | inl e ↦ (let s : x.ring.seq ≡ floor c = ap (λ (c : Configuration). c.ring.seq) e in omega arith)
      | inr k ↦ (let l : x.ring.seq < floor c = all_below c.running r.older r.falls x k in omega arith)
    ]
