use Rattle.ring_host.proofs.Settling.{finished_so}
use Rattle.ring_host.proofs.gated_turn.HostOf+Cell+O+K+Book+O+K+O+Alloc.lock_and_finish_step.Goals as goal

pub returns-clause-finished : goal.returns-clause-finished
returns-clause-finished g c =
    finished_so c.finish_step.result c.args.stepped _ _ c.args.cell.now c.finish_step.new.cell c.finish_step.ensures.entered c.finish_step.ensures.why
