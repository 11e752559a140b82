-- How the outputs of a ring core extend its node's epochs.
-- Rules: The replicated log 1; Outputs 9
use Rattle.std.specs.Prelude.{List, [], ◌∷◌}
use Rattle.ring_core_spec.specs.declared.out.Out.{Out}
use Rattle.ring_core_spec.specs.declared.out.Out.TheVariants.{Send, Agreed, Safe, Trans, Rest, Regular}
use Rattle.ring_log.specs.Epochs.{Epoch, epoch_opening, epochs_with_message, epochs_with_mark}

-- the epochs after an output; deliveries in a transitional configuration add nothing to them
abbrev pub epochs_after_event : {A : Type 0} → List (Epoch A) → Out A → List (Epoch A)
epochs_after_event epochs (Agreed ring n x) = epochs_with_message x epochs
epochs_after_event epochs (Safe ring upto) = epochs_with_mark upto epochs
epochs_after_event epochs (Regular ring set) = epoch_opening ring set ∷ epochs
epochs_after_event epochs (Send to frame) = epochs
epochs_after_event epochs (Trans old new set) = epochs
epochs_after_event epochs (Rest ring n x) = epochs

-- the epochs after outputs, in order
abbrev pub epochs_after : {A : Type 0} → List (Epoch A) → List (Out A) → List (Epoch A)
epochs_after epochs [] = epochs
epochs_after epochs (o ∷ outs) = epochs_after (epochs_after_event epochs o) outs
