use Rattle.std.proofs.Common.{arith}
use Rattle.ring_window.proofs.WordBits.{set_this, set_others}
use Rattle.ring_recover.proofs.offsets.Offsets.insert.Goals as goal

pub returns-clause-this : goal.returns-clause-this
returns-clause-this c = set_this c.args.self.now.words c.args.offset (omega arith) c.requires

pub returns-clause-others : goal.returns-clause-others
returns-clause-others c = λ j other. set_others c.args.self.now.words c.args.offset j (omega arith) c.requires other
