use Rattle.std.proofs.Common.{◌∙◌, arith}
use Rattle.ring_things.specs.NamesLaws.{IsSet-with_name}
use Rattle.ring_things.proofs.names.Names.insert_name.Goals as goal

pub invariant_of-self-in-Err : goal.invariant_of-self-in-Err
invariant_of-self-in-Err g c =
    let names = c.self.inside.names in
    let missing = rw c.as_slice.ensures.value at c.in-Err.ensures.missing in
    rw (c.in_ok-insert-in-Err.ensures.items ∙ missing.with_it)
    (IsSet-with_name c.args.name names.items c.requires missing.nowhere
    (omega (arith, c.self.invariant.few, c.if-len-eq-MAX_NAMES.false, c.len.ensures, names.ok.0)) c.self.invariant)
