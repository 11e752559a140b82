-- Lives filled with the places that snapshots stand for: each snapshot stands for the first places of its sender's log, by lives
-- that are filled as well.

-- The places of the snapshot sent in a ring depend only on lives of smaller rings, so they are the same whatever the number up to
-- which lives are filled.
use Rattle.std.proofs.Common.{◌≡◌, ℕ, zero, suc, ◌<◌, ◌==◌, Bool, true, false, List, [], ◌∷◌, take, Some, inl, inr}
use Rattle.std.proofs.Common.{if◌then◌else◌, refl, ap, sym, ◌∙◌, subst, arith}
use Rattle.std.proofs.lemmas.Bool.{cond-true, cond-false, cond_both, cases_eq, ne_eqb, eq-eqb, eqb-true}
use Rattle.ring_base.specs.Group.{Group}
use Rattle.ring_payload.specs.declared.call.Call.{Call as OneCall}
use Rattle.ring_log.specs.Epochs.{Epoch}
use Rattle.ring_log.specs.EpochHistories.{complete_exchange, log_of, older_at, epochs_with_snapshots, front_wanted, front_by, front_after, front_in, fronts_below, whole_epochs}
use Rattle.ring_log_proof.specs.RingFacts.{HasEpoch, Rises}
use Rattle.ring_log_proof.specs.Discipline.{HasOwnerSnapshots}
use Rattle.ring_log_proof.proofs.Epochs.{top-above, seq-same}

-- ---- filled lives

module _ {A : Type 0} (fronts : ℕ → ℕ → List (OneCall A)) (p : ℕ) where
  abbrev pub fill : Epoch A → Epoch A
  fill s = record s { front = fronts p s.ring.seq }

  -- an epoch of such a life, and the life before it
  pub record FilledStay (epochs : List (Epoch A)) (t : Epoch A) (before : List (Epoch A)) : Type 0 where
    pub epoch : Epoch A
    pub older : List (Epoch A)
    pub there : HasEpoch epochs epoch older
    pub stay_is : fill epoch ≡ t
    pub older_is : epochs_with_snapshots fronts p older ≡ before

  pub filled-epoch : (epochs : List (Epoch A)) (t : Epoch A) (before : List (Epoch A)) → HasEpoch (epochs_with_snapshots fronts p epochs) t before → FilledStay epochs t before
  filled-epoch [] t before h = absurd h
  filled-epoch (s ∷ older) t before (inl e) = record { epoch = s; older = older; there = inl (refl, refl); stay_is = e.0; older_is = e.1 }
  filled-epoch (s ∷ older) t before (inr i) =
      let f = filled-epoch older t before i in
      record { epoch = f.epoch; older = f.older; there = inr f.there; stay_is = f.stay_is; older_is = f.older_is }

  -- the life before a ring is filled likewise
  filled-older : (number : ℕ) (epochs : List (Epoch A)) → older_at number (epochs_with_snapshots fronts p epochs) ≡ epochs_with_snapshots fronts p (older_at number epochs)
  filled-older number [] = refl
  filled-older number (s ∷ older) = by (s.ring.seq == number) (filled-older number older)
    where
      by : (b : Bool) → older_at number (epochs_with_snapshots fronts p older) ≡ epochs_with_snapshots fronts p (older_at number older)
          → (if b then epochs_with_snapshots fronts p older else older_at number (epochs_with_snapshots fronts p older)) ≡ epochs_with_snapshots fronts p (if b then older else older_at number older)
      by true same = refl
      by false same = same

-- if two fillings agree on each ring
pub filled-same : {A : Type 0} (f g : ℕ → ℕ → List (OneCall A)) (p : ℕ) (epochs : List (Epoch A))
    → ((s : Epoch A) (older : List (Epoch A)) → HasEpoch epochs s older → f p s.ring.seq ≡ g p s.ring.seq) → epochs_with_snapshots f p epochs ≡ epochs_with_snapshots g p epochs
filled-same f g p [] same = refl
filled-same {A} f g p (s ∷ older) same =
    ap (λ (l : List (OneCall A)). record s { front = l } ∷ epochs_with_snapshots f p older) (same s older (inl (refl, refl)))
    ∙ ap (λ l. record s { front = g p s.ring.seq } ∷ l) (filled-same f g p older (λ t before i. same t before (inr i)))

-- the life before the ring of a number has smaller numbers
older-low : {A : Type 0} (number : ℕ) (epochs : List (Epoch A)) → Rises epochs → (s : Epoch A) (older : List (Epoch A)) → HasEpoch (older_at number epochs) s older
    → (s.ring.seq < number) × HasEpoch epochs s older
older-low number [] rises s older i = absurd i
older-low {A} number (t ∷ before) rises s older i =
    cond_both (t.ring.seq == number) before (older_at number before) (λ l. HasEpoch l s older → (s.ring.seq < number) × HasEpoch (t ∷ before) s older)
    (λ e j. (omega (arith, top-above t before s older rises j, eqb-true t.ring.seq number e), inr j))
    (λ e j. let k = older-low number before rises.1 s older j in (k.0, inr k.1))
    i

-- ---- the places that snapshots stand for

module _ {A : Type 0} (group : Group) (node_epochs : ℕ → List (Epoch A)) (rises : (p : ℕ) → Rises (node_epochs p)) where
  abbrev Prefixes : ℕ → ℕ → ℕ → List (OneCall A)
  Prefixes = fronts_below group node_epochs

  -- they are the same for each greater number
  pub front-stable : (bound p number : ℕ) → number < bound → Prefixes bound p number ≡ Prefixes (suc number) p number
  front-stable zero p number low = absurd (omega (arith, low))
  front-stable (suc bound) p number low = elim (cases_eq number bound) as (λ _. Prefixes (suc bound) p number ≡ Prefixes (suc number) p number) [
    | inl same ↦ ap (λ b. Prefixes (suc b) p number) (sym same)
    | inr other ↦
        cond-false (number == bound) (front_in group node_epochs (Prefixes bound) number (node_epochs p)) (Prefixes bound p number) (ne_eqb number bound other)
        ∙ front-stable bound p number (omega (arith, low, other))
  ]

  -- the snapshot places of an epoch's ring
  front-found : (fronts : ℕ → ℕ → List (OneCall A)) (epochs : List (Epoch A)) (s : Epoch A) (older : List (Epoch A)) → Rises epochs → HasEpoch epochs s older
      → front_in group node_epochs fronts s.ring.seq epochs ≡ front_after group node_epochs fronts s.ring.seq (complete_exchange group s.members s.heard)
  front-found fronts [] s older r i = absurd i
  front-found fronts (t ∷ before) s older r (inl e) =
      cond-true (t.ring.seq == s.ring.seq) (front_after group node_epochs fronts s.ring.seq (complete_exchange group t.members t.heard))
      (front_in group node_epochs fronts s.ring.seq before) (eq-eqb t.ring.seq s.ring.seq (seq-same e.0))
      ∙ ap (λ (u : Epoch A). front_after group node_epochs fronts s.ring.seq (complete_exchange group u.members u.heard)) e.0
  front-found fronts (t ∷ before) s older r (inr i) =
      cond-false (t.ring.seq == s.ring.seq) (front_after group node_epochs fronts s.ring.seq (complete_exchange group t.members t.heard))
      (front_in group node_epochs fronts s.ring.seq before)
      (ne_eqb t.ring.seq s.ring.seq (λ same. absurd (omega (arith, same, top-above t before s older r i))))
      ∙ front-found fronts before s older r.1 i

  pub front-of : (bound p : ℕ) (s : Epoch A) (older : List (Epoch A)) → HasEpoch (node_epochs p) s older → s.ring.seq < bound
      → Prefixes bound p s.ring.seq ≡ front_after group node_epochs (Prefixes s.ring.seq) s.ring.seq (complete_exchange group s.members s.heard)
  front-of bound p s older i low =
      let n = s.ring.seq in
      front-stable bound p n low
      ∙ cond-true (n == n) (front_in group node_epochs (Prefixes n) n (node_epochs p)) (Prefixes n p n) (eq-eqb n n refl)
      ∙ front-found (Prefixes n) (node_epochs p) s older (rises p) i

  -- lives that are filled up to numbers above all of their rings
  pub fronts-stand : (bounds : ℕ → ℕ) → ((p : ℕ) (s : Epoch A) (older : List (Epoch A)) → HasEpoch (node_epochs p) s older → s.ring.seq < bounds p)
      → HasOwnerSnapshots group (λ p. whole_epochs group node_epochs (bounds p) p)
  fronts-stand bounds above p t before whole w at there exch wants snap =
      let f = filled-epoch (Prefixes (bounds p)) p (node_epochs p) t before there in
      let s = f.epoch in
      let n = s.ring.seq in
      let heard : complete_exchange group s.members s.heard ≡ Some whole =
      subst (λ (u : Epoch A). complete_exchange group u.members u.heard ≡ Some whole) (sym f.stay_is) exch in
      let told : Prefixes (bounds p) p n ≡ take at (log_of group (epochs_with_snapshots (Prefixes n) w.owner (older_at n (node_epochs w.owner)))) =
      front-of (bounds p) p s f.older f.there (above p s f.older f.there) ∙ ap (front_after group node_epochs (Prefixes n) n) heard
      ∙ ap (front_by group node_epochs (Prefixes n) n) wants ∙ ap (front_wanted group node_epochs (Prefixes n) n w) snap in
      let q = w.owner in
      let behind : epochs_with_snapshots (Prefixes n) q (older_at n (node_epochs q)) ≡ older_at n (whole_epochs group node_epochs (bounds q) q) =
      filled-same (Prefixes n) (Prefixes (bounds q)) q (older_at n (node_epochs q)) (λ u older i.
      let low = older-low n (node_epochs q) (rises q) u older i in
      front-stable n q u.ring.seq low.0 ∙ sym (front-stable (bounds q) q u.ring.seq (above q u older low.1)))
      ∙ sym (filled-older (Prefixes (bounds q)) q n (node_epochs q)) in
      ap (λ (u : Epoch A). u.front) (sym f.stay_is) ∙ told ∙ ap (λ l. take at (log_of group l)) behind
      ∙ ap (λ (u : Epoch A). take at (log_of group (older_at u.ring.seq (whole_epochs group node_epochs (bounds q) q)))) f.stay_is
