use Rattle.ring_trace_picture.proofs.shapes.write_opening_line.Goals as goal

pub returns : goal.returns
returns g c = c.writeln.ensures.bytes
