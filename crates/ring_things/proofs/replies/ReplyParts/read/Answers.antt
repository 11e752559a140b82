use Rattle.std.proofs.Common.{ap, sym, ◌∙◌}
use Rattle.ring_object.specs.Bytes.{AreBytes-fits}
use Rattle.ring_things.specs.Outcome.{decoding}
use Rattle.ring_things.specs.OutcomeLaws.{decoding-encoding, found-decoding}
use Rattle.ring_things.proofs.replies.ReplyParts.read.Goals as goal

pub returns-clause-found : goal.returns-clause-found
returns-clause-found c =
    found-decoding c.args.reply.now c.decode_reply.result (AreBytes-fits c.args.reply.now c.type_inv.reply) c.decode_reply.ensures

pub returns-clause-only : goal.returns-clause-only
returns-clause-only c replied fits is = c.decode_reply.ensures ∙ ap decoding (sym is) ∙ decoding-encoding replied fits
