use Rattle.std.proofs.Common.{ap}
use Rattle.ring_sweep.specs.VariantTexts.{ends_line}
use Rattle.ring_sweep.proofs.variant_script.is_ended.Goals as goal

pub returns-in-Some : goal.returns-in-Some
returns-in-Some c = ap ends_line c.in-Some.ensures.value

pub returns-in-None : goal.returns-in-None
returns-in-None c = ap ends_line c.in-None.ensures.value
