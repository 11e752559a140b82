use Rattle.std.proofs.Common.{arith, ap, length}
use Rattle.ring_wire.specs.Commits.{length-entries}
use Rattle.ring_wire.proofs.commit.CommitTokenEncode.encoded_len.Goals as goal

pub returns-clause-value : goal.returns-clause-value
returns-clause-value c = omega (arith, length-entries c.args.self.now.entries c.requires.each, ap length c.as_slice.ensures.value)
