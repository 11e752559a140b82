use Rattle.ring_things.specs.NamesLaws.{empty_IsSet}
use Rattle.ring_things.proofs.names.NamesObject.start.Goals as goal

pub invariant_of-result : goal.invariant_of-result
invariant_of-result g c = rw c.new.ensures.items empty_IsSet
