-- Calls with different numbers are different.
use Rattle.std.proofs.Common.{◌==◌, ◌&&◌, ◌∙◌, sym}
use Rattle.std.specs.Str.{bytes_eq}
use Rattle.std.proofs.lemmas.Bool.{ne_eqb, and_left, and_right}
use Rattle.ring_session.proofs.tickets.is_same_call_by_number.Goals as goal

pub returns-else-other-call : goal.returns-else-other-call
returns-else-other-call g c =
    let call = c.args.call.now in
    let other = c.args.other.now in
    let differ = ne_eqb other.number call.number c.if-other-call.false in
    differ
    ∙ sym (and_left ((other.client == call.client) && (other.number == call.number)) (bytes_eq other.op call.op)
    (and_right (other.client == call.client) (other.number == call.number) differ))
