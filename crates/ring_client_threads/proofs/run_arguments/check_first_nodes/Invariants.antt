use Rattle.std.specs.List.{AllWithin}
use Rattle.ring_client_threads.specs.Arguments.{IsNode}
use Rattle.ring_client_threads.proofs.run_arguments.check_first_nodes.Given as goal

abbrev pub invariant-loop-caller : goal.invariant-loop-caller
invariant-loop-caller g l = AllWithin (λ caller. IsNode l.group.count (g.C.Caller.first caller)) l.callers 0 l.caller-index
