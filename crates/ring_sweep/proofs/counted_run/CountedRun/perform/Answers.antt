use Rattle.ring_sweep.proofs.Walking.{ends_does, copy_fits}
use Rattle.ring_sweep.proofs.counted_run.CountedRun.perform.Goals as goal

pub run_line_silently-requires : goal.run_line_silently-requires
run_line_silently-requires g c = copy_fits c.args.line.now c.in_ok-copy.copy c.in_ok-copy.ensures.ok c.requires

pub returns-clause-ok : goal.returns-clause-ok
returns-clause-ok g c =
    ends_does g.O.Object.sequential c.run_line_silently.result c.args.line.now c.in_ok-copy.copy c.args.self.now.run c.run_line_silently.new.self
    c.in_ok-copy.ensures.ok c.run_line_silently.ensures.ends
