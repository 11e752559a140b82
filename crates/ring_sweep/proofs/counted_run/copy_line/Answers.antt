-- Of noise the bytes are copied.
use Rattle.std.proofs.Common.{refl, subst, sym}
use Rattle.ring_script.specs.declared.line.ScriptLine.TheVariants.{Noise}
use Rattle.ring_sweep.specs.Copies.{IsCopyOf}
use Rattle.ring_sweep.proofs.counted_run.copy_line.Goals as goal

pub returns-in_ok-copy-in-Noise-clause-ok : goal.returns-in_ok-copy-in-Noise-clause-ok
returns-in_ok-copy-in-Noise-clause-ok g c =
    subst (λ l. IsCopyOf l (Noise c.in-Noise.node c.in_ok-copy-in-Noise.copy)) (sym c.in-Noise.is)
    (c.in_ok-copy-in-Noise.copy, refl, c.in_ok-copy-in-Noise.ensures.ok)
