-- A life's last primary and log are of the newest adopted ring.
use Rattle.std.proofs.Common.{◌≡◌, ◌<◌, List, [], ◌∷◌, Option, Some, None, ◌⊎◌, inl, inr, refl, ap, sym, ◌∙◌, subst}
use Rattle.ring_base.specs.Group.{Group}
use Rattle.ring_log.specs.Epochs.{Epoch}
use Rattle.ring_log.specs.EpochHistories.{CompleteExchange, complete_exchange, own_base, log_by, log_of, last_by, last_of}
use Rattle.ring_log_proof.specs.RingFacts.{HasEpoch, Rises}
use Rattle.ring_log_proof.proofs.CompleteExchanges.{log_on}
use Rattle.ring_log_proof.proofs.Epochs.{top-above}

pub record NewestRings {A : Type 0} (group : Group) (epochs : List (Epoch A)) : Type 0 where
  pub epoch : Epoch A
  pub older : List (Epoch A)
  pub whole : CompleteExchange A
  pub there : HasEpoch epochs epoch older
  pub exch : complete_exchange group epoch.members epoch.heard ≡ Some whole
  pub last : last_of group epochs ≡ Some epoch.ring
  pub log : log_of group epochs ≡ log_on (own_base (log_of group older) epoch.front) whole

newest-top : {A : Type 0} (group : Group) (s : Epoch A) (older : List (Epoch A)) (w : CompleteExchange A) → complete_exchange group s.members s.heard ≡ Some w
    → NewestRings group (s ∷ older)
newest-top group s older w e = record {
  epoch = s;
  older = older;
  whole = w;
  there = inl (refl, refl);
  exch = e;
  last = ap (last_by s.ring (last_of group older)) e;
  log = ap (log_by (log_of group older) s.front) e;
}

newest-more : {A : Type 0} (group : Group) (s : Epoch A) (older : List (Epoch A)) → complete_exchange group s.members s.heard ≡ None → NewestRings group older
    → NewestRings group (s ∷ older)
newest-more group s older e m = record {
  epoch = m.epoch;
  older = m.older;
  whole = m.whole;
  there = inr m.there;
  exch = m.exch;
  last = ap (last_by s.ring (last_of group older)) e ∙ m.last;
  log = ap (log_by (log_of group older) s.front) e ∙ m.log;
}

newest-step : {A : Type 0} (group : Group) (s : Epoch A) (older : List (Epoch A)) (o : Option (CompleteExchange A)) → complete_exchange group s.members s.heard ≡ o
    → (last_of group older ≡ None) ⊎ NewestRings group older
    → (last_of group (s ∷ older) ≡ None) ⊎ NewestRings group (s ∷ older)
newest-step group s older (Some w) e before = inr (newest-top group s older w e)
newest-step group s older None e (inl none) = inl (ap (last_by s.ring (last_of group older)) e ∙ none)
newest-step group s older None e (inr m) = inr (newest-more group s older e m)

pub newest-or_none : {A : Type 0} (group : Group) (epochs : List (Epoch A)) → (last_of group epochs ≡ None) ⊎ NewestRings group epochs
newest-or_none group [] = inl refl
newest-or_none group (s ∷ older) = newest-step group s older (complete_exchange group s.members s.heard) refl (newest-or_none group older)

-- from an adopted ring on, the newest adopted one is that or a later one
pub record NewestFrom {A : Type 0} (group : Group) (epochs : List (Epoch A)) (s : Epoch A) : Type 0 where
  pub newest : NewestRings group epochs
  pub from : (newest.epoch ≡ s) ⊎ (s.ring.seq < newest.epoch.ring.seq)

from-step : {A : Type 0} (group : Group) (t : Epoch A) (before : List (Epoch A)) (s : Epoch A) (o : Option (CompleteExchange A)) → complete_exchange group t.members t.heard ≡ o
    → s.ring.seq < t.ring.seq
    → NewestFrom group before s → NewestFrom group (t ∷ before) s
unfolding newest-top newest-more
from-step group t before s (Some w) e above f = record { newest = newest-top group t before w e; from = inr above }
from-step group t before s None e above f = record { newest = newest-more group t before e f.newest; from = f.from }

pub newest-from : {A : Type 0} (group : Group) (epochs : List (Epoch A)) (s : Epoch A) (older : List (Epoch A)) (w : CompleteExchange A) → Rises epochs → HasEpoch epochs s older
    → complete_exchange group s.members s.heard ≡ Some w → NewestFrom group epochs s
unfolding newest-top
newest-from group [] s older w r h e = absurd h
newest-from {A} group (t ∷ before) s older w r (inl x) e =
    record { newest = newest-top group t before w (subst (λ (u : Epoch A). complete_exchange group u.members u.heard ≡ Some w) (sym x.0) e); from = inl x.0 }
newest-from group (t ∷ before) s older w r (inr x) e =
    from-step group t before s (complete_exchange group t.members t.heard) refl (top-above t before s older r x) (newest-from group before s older w r.1 x e)
