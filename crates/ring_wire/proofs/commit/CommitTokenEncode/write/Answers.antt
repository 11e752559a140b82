use Rattle.ring_payload.proofs.Writes.{and_then}
use Rattle.ring_wire.specs.Commits.{commit_hop}
use Rattle.ring_wire.proofs.commit.CommitTokenEncode.write.Goals as goal

pub write-requires-3-clause-fits : goal.write-requires-3-clause-fits
write-requires-3-clause-fits g c = commit_hop c.args.self.now c.requires.fits

pub returns : goal.returns
returns g c = and_then c.write.ensures (and_then c.write-2.ensures (and_then c.write-3.ensures (rw c.as_slice.ensures.value at c.encode_list.ensures)))
