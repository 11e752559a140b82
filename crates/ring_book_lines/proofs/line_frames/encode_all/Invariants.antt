use Rattle.std.proofs.Common.{◌≡◌, ◌+◌, ◌≤◌, length, take}
use Rattle.ring_book_lines.proofs.line_frames.encode_all.Given as goal
use Rattle.ring_base.specs.Numbers.{max_frame_bytes}

abbrev pub invariant-loop-sent : goal.invariant-loop-sent
invariant-loop-sent g l = record {
  items : l.encoded.items ≡ take l.sent-index l.sends;
  room : max_frame_bytes ≤ length l.text.items + l.text.spare;
}
