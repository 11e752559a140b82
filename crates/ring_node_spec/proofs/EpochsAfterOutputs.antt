-- A life after two lists of outputs: the life after the second, applied to the life after the first.
use Rattle.std.proofs.Common.{◌≡◌, List, [], ◌∷◌, ◌++◌, refl}
use Rattle.ring_core_spec.specs.declared.out.Out.{Out}
use Rattle.ring_log.specs.Epochs.{Epoch}
use Rattle.ring_node_spec.specs.EpochHistories.{epochs_after_event, epochs_after}

pub through-append : {A : Type 0} → (epochs : List (Epoch A)) (xs ys : List (Out A)) → epochs_after epochs (xs ++ ys) ≡ epochs_after (epochs_after epochs xs) ys
through-append epochs [] ys = refl
through-append epochs (x ∷ xs) ys = through-append (epochs_after_event epochs x) xs ys
