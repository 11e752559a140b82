use Rattle.std.proofs.Common.{◌∙◌}
use Rattle.ring_things.specs.NamesLaws.{IsSet-without_name}
use Rattle.ring_things.proofs.names.Names.remove_name.Goals as goal

pub invariant_of-self : goal.invariant_of-self
invariant_of-self g c =
    let found = rw c.as_slice.ensures.value at c.in-Ok.ensures.found in
    rw (c.remove.ensures.items ∙ found.others) (IsSet-without_name c.args.name.now c.self.inside.names.items c.self.invariant)
