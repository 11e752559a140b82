use Rattle.std.proofs.Common.{sym}
use Rattle.ring_base.proofs.Each.{each-get}
use Rattle.ring_order_proof.specs.Limits.{SentFits}
use Rattle.ring_book_lines.proofs.line_frames.unencoded_has_bytes.Goals as goal

pub sent_has_bytes-requires-clause-fits : goal.sent_has_bytes-requires-clause-fits
sent_has_bytes-requires-clause-fits g c = each-get SentFits c.args.unencoded.now c.args.frame_index c.in-Some.sent.now c.requires.fit (sym c.in-Some.ensures)

pub returns-in-Some-clause-found : goal.returns-in-Some-clause-found
returns-in-Some-clause-found g c = rw (← c.in-Some.ensures) c.sent_has_bytes.ensures.found
