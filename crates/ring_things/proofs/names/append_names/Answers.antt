-- The old content stays a prefix, and each name is appended to the others.
use Rattle.std.proofs.Common.{length, append_assoc, sym}
use Rattle.std.proofs.lemmas.List.{take_at}
use Rattle.byteorder.specs.Endian.{big_bytes}
use Rattle.ring_things.proofs.Appended.{name_appended}
use Rattle.ring_things.proofs.names.append_names.Goals as goal

pub returns-in_err-push-clause-front : goal.returns-in_err-push-clause-front
returns-in_err-push-clause-front g c = rw (c.in_err-push.ensures.items, c.loop-name.invariant) (take_at _ _ _ (sym c.args.out.now.ok.0))

pub returns-in_err-extend_from_slice-2-clause-front : goal.returns-in_err-extend_from_slice-2-clause-front
returns-in_err-extend_from_slice-2-clause-front g c =
    rw (c.in_err-extend_from_slice-2.ensures.items, c.in_ok-push.ensures.items, c.loop-name.invariant, append_assoc) (take_at _ _ _ (sym c.args.out.now.ok.0))

pub loop-name-preserved : goal.loop-name-preserved
loop-name-preserved g c =
    name_appended c.args.names.now c.name-item.result c.loop-name.name-index c.args.out.now.items
    (big_bytes 2 (length c.args.names.now)) c.loop-name.out.items c.push.new.self.items c.extend_from_slice-in-loop-name.new.self.items
    c.loop-name-test.true c.name-item.is c.loop-name.invariant (rw c.len.ensures.value at c.in_ok-push.ensures.items)
    (rw c.as_slice.ensures.value at c.in_ok-extend_from_slice-2.ensures.items)

pub returns-clause-front : goal.returns-clause-front
returns-clause-front g c = rw c.loop-name.invariant (take_at _ _ _ (sym c.args.out.now.ok.0))
