-- All variants in one range.
use Rattle.ring_sweep.proofs.Trying.{tried_whole}
use Rattle.ring_sweep.proofs.rounds.try_by_threads.Goals as goal

pub returns-in-Some-clause-ok : goal.returns-in-Some-clause-ok
returns-in-Some-clause-ok g c =
    tried_whole _ c.args.script.now.nodes c.args.script.now.lines.items c.args.variants c.try_rounds-illegal.result c.try_rounds-illegal.ensures.ok

pub returns-in-None-clause-ok : goal.returns-in-None-clause-ok
returns-in-None-clause-ok g c =
    tried_whole _ c.args.script.now.nodes c.args.script.now.lines.items c.args.variants c.try_range.result c.try_range.ensures.ok
