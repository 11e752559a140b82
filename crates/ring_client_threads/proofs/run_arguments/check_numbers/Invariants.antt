use Rattle.std.specs.List.{AllWithin}
use Rattle.ring_client_threads.specs.Arguments.{IsNode}
use Rattle.ring_client_threads.proofs.run_arguments.check_numbers.Given as goal

abbrev pub invariant-loop-number : goal.invariant-loop-number
invariant-loop-number l = AllWithin (IsNode l.group.count) l.numbers 0 l.number-index
