use Rattle.std.proofs.Common.{◌≡◌, drop}
use Rattle.ring_world_port.specs.Answers.{first_answer_in}
use Rattle.ring_world_port.proofs.submitted_call.SubmittedCall.first_answer_in.Given as goal

abbrev pub invariant-loop-one : goal.invariant-loop-one
invariant-loop-one g l = first_answer_in l.self l.told ≡ first_answer_in l.self (drop l.one-index l.told)
