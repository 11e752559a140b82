use Rattle.std.proofs.Common.{◌∙◌, ◌-◌, length, drop}
use Rattle.ring_object.specs.Bytes.{AreBytes-fits}
use Rattle.ring_things.specs.ReplyBytes.{AreBytes-drop, AreBytes-take}
use Rattle.ring_things.specs.QueueLaws.{IsQueue-numbers_from_bytes}
use Rattle.ring_things.proofs.queue.QueueObject.restore.Goals as goal

pub invariant_of-result : goal.invariant_of-result
invariant_of-result g c =
    let bytes = c.args.bytes.now in
    let are = AreBytes-take (length bytes - 2) (drop 2 bytes) (AreBytes-drop 2 bytes (AreBytes-fits bytes c.type_inv.bytes)) in
    rw (c.from_vec-items.ensures.items ∙ c.in_ok-decode_numbers.ensures.ok) (IsQueue-numbers_from_bytes c.read_u16-count.result _ c.if-count-gt-MAX_QUEUE_VALUES.false are)
