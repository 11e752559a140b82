use Rattle.std.proofs.Common.{◌+◌, ◌-◌, ◌*◌, ◌/◌, ◌≤◌}
use Rattle.ring_failure.specs.Shares.{share_begin}
use Rattle.ring_sweep.specs.ScriptPositions.{HasReachedEvent}
use Rattle.ring_sweep.specs.Variants.{AreTriedIn}
use Rattle.ring_sweep.proofs.variant_range.try_from_base.Given as goal

-- The variants so far were run, and the base run is not past the event of the next.
abbrev pub invariant-loop-place : goal.invariant-loop-place
invariant-loop-place g l = record {
  tried : AreTriedIn g.O.Object.sequential l.script.nodes l.script.lines.items (l.part.from + share_begin (l.part.upto - l.part.from) l.shares l.share)
      (l.part.from + l.place) l.illegal;
  come : HasReachedEvent g.O.Object.sequential l.script.nodes l.script.lines.items l.base_run.lines l.base_run.turns l.base_run.counted_run.events_done l.base_run.counted_run.run;
  most : l.base_run.counted_run.events_done ≤ (l.part.from + l.place) / (2 * l.script.nodes.count);
}
