use Rattle.std.proofs.Common.{◌-◌, length, drop}
use Rattle.ring_object.specs.Bytes.{AreBytes-fits}
use Rattle.ring_things.specs.ReplyBytes.{AreBytes-drop, AreBytes-take}
use Rattle.ring_things.specs.NamesLaws.{IsSet-names_of}
use Rattle.ring_things.proofs.names.NamesObject.restore.Goals as goal

pub invariant_of-result : goal.invariant_of-result
invariant_of-result g c =
    let bytes = c.args.bytes.now in
    let are = AreBytes-take (length bytes - 2) (drop 2 bytes) (AreBytes-drop 2 bytes (AreBytes-fits bytes c.type_inv.bytes)) in
    (IsSet-names_of c.read_u16-count.result _ _ c.if-count-gt-MAX_NAMES.false are c.in_ok-names.ensures.ok).0
