use Rattle.std.proofs.Common.{◌≡◌}
use Rattle.std.specs.Io.KnownBytes.{Keeps}
use Rattle.ring_console.specs.Listings.{left_of, IsEndRight}
use Rattle.ring_console.proofs.frame_reader.FrameReader.read_ahead.Given as goal

-- The rest of the input stays the same, however much of it is read ahead.
abbrev pub invariant-loop : goal.invariant-loop
invariant-loop g l = record {
  kept : Keeps (left_of l.fn.self (g.R.Read.remaining l.fn.input)) (left_of l.self (g.R.Read.remaining l.input));
  ended : IsEndRight l.self (g.R.Read.remaining l.input);
  taken : l.self.taken_bytes ≡ 0;
  position : l.self.next_frame_offset ≡ l.fn.self.next_frame_offset;
}
