-- The window of the installed ring has all that the core would report.
use Rattle.std.proofs.Common.{ap, ◌∙◌}
use Rattle.ring_core_spec.specs.Views.{own_entry}
use Rattle.ring_srp_transitions.proofs.OneRingOfCore.{entry_by}
use Rattle.ring_srp_transitions.proofs.running_core.RunningCore.own_entry.Goals as goal

pub returns : goal.returns
returns g c = entry_by _ _ _ _ _ _ c.self.invariant.kept c.front.ensures c.mark.ensures c.held_bits.ensures ∙ ap own_entry c.self.view_is
