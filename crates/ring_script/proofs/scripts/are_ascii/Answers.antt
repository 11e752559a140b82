use Rattle.ring_script.proofs.AsciiLines.{ascii_told}
use Rattle.ring_script.proofs.scripts.are_ascii.Goals as goal

pub returns : goal.returns
returns c = ascii_told c.is_ascii.result c.args.line.now c.is_ascii.ensures.cases
