use Rattle.std.specs.Io.KnownBytes.{Appends}
use Rattle.ring_world.specs.WorldView.{world_of}
use Rattle.ring_console.specs.Running.{nodes_text}
use Rattle.ring_console.proofs.script_run.ScriptRun.print_node_states.Given as goal

-- The nodes so far are printed.
abbrev pub invariant-loop-before : goal.invariant-loop-before
invariant-loop-before g l =
    Appends (g.W.Write.contents l.initial.out) (g.W.Write.contents l.out) (nodes_text g.O.Object.sequential l.before
    (world_of g.O.Object.sequential l.self.world_view))
