use Rattle.std.proofs.Common.{◌≤◌, length, arith}
use Rattle.ring_script.proofs.Inputs.{whole_below}
use Rattle.ring_script.proofs.scripts.read_text.Goals as goal

pub returns-in-Ok-clause-whole : goal.returns-in-Ok-clause-whole
returns-in-Ok-clause-whole g c =
    let fits : length c.read_to_end.new.buf.items ≤ 1048576 = omega (arith, c.in-Ok.ensures.ok, c.new-text.ensures.len) in
    let bytes = rw (c.take.ensures.limit, c.take.ensures.inner, c.new-text.ensures.items) at c.in-Ok.ensures.bytes in
    whole_below 1048577 (g.R.Read.remaining c.args.input.now) c.read_to_end.new.buf.items bytes (omega arith)
