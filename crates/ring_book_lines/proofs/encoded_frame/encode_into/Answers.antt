use Rattle.std.proofs.Common.{arith}
use Rattle.ring_wire.specs.Frames.{length-frame}
use Rattle.ring_book_lines.proofs.encoded_frame.encode_into.Goals as goal

pub write-requires-clause-room : goal.write-requires-clause-room
write-requires-clause-room g c = omega (arith, length-frame c.args.frame.now c.requires.fits, c.clear.ensures.spare, c.requires.room)
