-- The epochs of one life: their order, and the life before each.
use Rattle.std.proofs.Common.{◌≡◌, ℕ, ◌≤◌, ◌<◌, ◌==◌, true, false, List, [], ◌∷◌, inl, inr, ap, sym, ◌∙◌, subst, arith}
use Rattle.std.specs.List.{AllByRecursion as Each}
use Rattle.std.proofs.lemmas.Bool.{cond_both, eqb-true, eq-eqb}
use Rattle.ring_base.specs.declared.ring_id.RingId.{RingId}
use Rattle.ring_log.specs.Epochs.{Epoch, number_above_rings}
use Rattle.ring_log.specs.EpochHistories.{older_at}
use Rattle.ring_log_proof.specs.RingFacts.{HasEpoch, EpochIn, Rises}

pub epoch-each : {A : Type 0} (P : Epoch A → Type 0) (epochs : List (Epoch A)) (s : Epoch A) (older : List (Epoch A)) → Each P epochs → HasEpoch epochs s older → P s
epoch-each P [] s older h i = absurd i
epoch-each P (t ∷ before) s older h (inl e) = subst P e.0 h.0
epoch-each P (t ∷ before) s older h (inr i) = epoch-each P before s older h.1 i

-- each earlier epoch has a smaller number
pub top-above : {A : Type 0} (t : Epoch A) (before : List (Epoch A)) (s : Epoch A) (older : List (Epoch A)) → Rises (t ∷ before) → HasEpoch before s older
    → s.ring.seq < t.ring.seq
top-above t before s older r i = epoch-each (λ (u : Epoch _). u.ring.seq < t.ring.seq) before s older r.0 i

pub seq-same : {A : Type 0} {s t : Epoch A} → s ≡ t → s.ring.seq ≡ t.ring.seq
seq-same {A} e = ap (λ (u : Epoch A). u.ring.seq) e

-- an epoch of a smaller number came before
pub epoch-below : {A : Type 0} (epochs : List (Epoch A)) (a b : Epoch A) (before_a before_b : List (Epoch A)) → Rises epochs → HasEpoch epochs a before_a
    → HasEpoch epochs b before_b → a.ring.seq < b.ring.seq → HasEpoch before_b a before_a
epoch-below [] a b oa ob r ha hb l = absurd ha
epoch-below (t ∷ before) a b oa ob r (inl x) (inl y) l = absurd (omega (arith, l, seq-same x.0, seq-same y.0))
epoch-below (t ∷ before) a b oa ob r (inl x) (inr y) l = absurd (omega (arith, l, top-above t before b ob r y, seq-same x.0))
epoch-below (t ∷ before) a b oa ob r (inr x) (inl y) l = subst (λ w. HasEpoch w a oa) y.1 x
epoch-below (t ∷ before) a b oa ob r (inr x) (inr y) l = epoch-below before a b oa ob r.1 x y l

-- a number has one epoch, and one life before it
pub epoch-same : {A : Type 0} (epochs : List (Epoch A)) (a b : Epoch A) (before_a before_b : List (Epoch A)) → Rises epochs → HasEpoch epochs a before_a
    → HasEpoch epochs b before_b → a.ring.seq ≡ b.ring.seq → (a ≡ b) × (before_a ≡ before_b)
epoch-same [] a b oa ob r ha hb e = absurd ha
epoch-same (t ∷ before) a b oa ob r (inl x) (inl y) e = (sym x.0 ∙ y.0, sym x.1 ∙ y.1)
epoch-same (t ∷ before) a b oa ob r (inl x) (inr y) e = absurd (omega (arith, e, top-above t before b ob r y, seq-same x.0))
epoch-same (t ∷ before) a b oa ob r (inr x) (inl y) e = absurd (omega (arith, e, top-above t before a oa r x, seq-same y.0))
epoch-same (t ∷ before) a b oa ob r (inr x) (inr y) e = epoch-same before a b oa ob r.1 x y e

pub epoch-trans : {A : Type 0} (epochs : List (Epoch A)) (s t : Epoch A) (before_s before_t : List (Epoch A)) → HasEpoch epochs s before_s
    → HasEpoch before_s t before_t → HasEpoch epochs t before_t
epoch-trans [] s t os ot h k = absurd h
epoch-trans (u ∷ us) s t os ot (inl x) k = inr (subst (λ w. HasEpoch w t ot) (sym x.1) k)
epoch-trans (u ∷ us) s t os ot (inr x) k = inr (epoch-trans us s t os ot x k)

pub rises-older : {A : Type 0} (epochs : List (Epoch A)) (s : Epoch A) (older : List (Epoch A)) → Rises epochs → HasEpoch epochs s older → Rises older
rises-older [] s older r h = absurd h
rises-older (u ∷ us) s older r (inl x) = subst Rises x.1 r.1
rises-older (u ∷ us) s older r (inr x) = rises-older us s older r.1 x

-- the life before an epoch has smaller numbers
pub older-below : {A : Type 0} (epochs : List (Epoch A)) (s t : Epoch A) (before_s before_t : List (Epoch A)) → Rises epochs → HasEpoch epochs s before_s
    → HasEpoch before_s t before_t → t.ring.seq < s.ring.seq
older-below [] s t os ot r h k = absurd h
older-below (u ∷ us) s t os ot r (inl x) k = omega (arith, top-above u us t ot r (subst (λ w. HasEpoch w t ot) (sym x.1) k), seq-same x.0)
older-below (u ∷ us) s t os ot r (inr x) k = older-below us s t os ot r.1 x k

-- the life before the ring of a number is found by the number
pub older-is : {A : Type 0} (epochs : List (Epoch A)) (s : Epoch A) (older : List (Epoch A)) → Rises epochs → HasEpoch epochs s older → older_at s.ring.seq epochs ≡ older
older-is [] s older r h = absurd h
older-is (t ∷ before) s older r (inl x) =
    cond_both (t.ring.seq == s.ring.seq) before (older_at s.ring.seq before) (λ w. w ≡ older)
    (λ e. x.1)
    (λ n. absurd (let y : true ≡ false = sym (eq-eqb t.ring.seq s.ring.seq (seq-same x.0)) ∙ n in cc y))
older-is (t ∷ before) s older r (inr x) =
    cond_both (t.ring.seq == s.ring.seq) before (older_at s.ring.seq before) (λ w. w ≡ older)
    (λ e. absurd (omega (arith, top-above t before s older r x, eqb-true t.ring.seq s.ring.seq e)))
    (λ n. older-is before s older r.1 x)

-- the same of a ring in which the life has an epoch
pub older-in : {A : Type 0} (epochs : List (Epoch A)) (r : RingId) → Rises epochs → (at : EpochIn epochs r) → older_at r.seq epochs ≡ at.older
older-in epochs r rises at = subst (λ (q : RingId). older_at q.seq epochs ≡ at.older) at.ring (older-is epochs at.epoch at.older rises at.there)

-- a life that is an earlier part of a processor's, of rings below a number
pub record IsLifeBelow {A : Type 0} (whole epochs : List (Epoch A)) (bound : ℕ) : Type 0 where
  pub rises : Rises epochs
  pub there : (s : Epoch A) (older : List (Epoch A)) → HasEpoch epochs s older → HasEpoch whole s older
  pub low : (s : Epoch A) (older : List (Epoch A)) → HasEpoch epochs s older → s.ring.seq < bound

-- it is so below each greater number
pub epochs-lower : {A : Type 0} (whole epochs : List (Epoch A)) (low high : ℕ) → low ≤ high → IsLifeBelow whole epochs low → IsLifeBelow whole epochs high
epochs-lower whole epochs low high le below = record {
  rises = below.rises;
  there = below.there;
  low = λ s older i. omega (arith, le, below.low s older i);
}

-- the life before an epoch is of smaller rings
pub epochs-behind : {A : Type 0} (epochs : List (Epoch A)) (r : RingId) → Rises epochs → (at : EpochIn epochs r) → IsLifeBelow epochs at.older r.seq
epochs-behind epochs r rises at = record {
  rises = rises-older epochs at.epoch at.older rises at.there;
  there = λ s older i. epoch-trans epochs at.epoch s at.older older at.there i;
  low = λ s older i. omega (arith, older-below epochs at.epoch s at.older older rises at.there i, ap (λ (q : RingId). q.seq) at.ring);
}

-- A number above a life's rings

pub below-above : {A : Type 0} (epochs : List (Epoch A)) (bound : ℕ) → Rises epochs → number_above_rings epochs ≤ bound → (s : Epoch A) (older : List (Epoch A))
    → HasEpoch epochs s older → s.ring.seq < bound
below-above [] bound rises le s older h = absurd h
below-above (t ∷ before) bound rises le s older (inl e) = omega (arith, le, seq-same e.0)
below-above (t ∷ before) bound rises le s older (inr i) = omega (arith, le, top-above t before s older rises i)
