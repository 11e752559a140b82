use Rattle.std.proofs.lemmas.Iterator.{YieldsList-from_slice}
use Rattle.std.proofs.lemmas.Iterator.Consumers.{YieldsList-from_copied}
use Rattle.ring_console.proofs.frame_lines.add_requests.Goals as goal

pub returns-clause-text : goal.returns-clause-text
returns-clause-text c = c.add_numbers.ensures.text c.args.requests.now (YieldsList-from_copied (YieldsList-from_slice c.args.requests.now cc)).runs
