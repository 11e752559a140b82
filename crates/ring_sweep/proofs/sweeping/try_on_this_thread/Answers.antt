use Rattle.std.proofs.Common.{◌+◌, ◌-◌, Option}
use Rattle.std.proofs.lemmas.Result.{IfOk-weaker}
use Rattle.ring_failure.specs.Shares.{share_begin}
use Rattle.ring_sweep.specs.declared.injection.Injection.{Injection}
use Rattle.ring_sweep.specs.Variants.{AreTried, AreTriedIn}
use Rattle.ring_sweep.proofs.Trying.{tried_alone}
use Rattle.ring_sweep.proofs.sweeping.try_on_this_thread.Goals as goal

pub returns-clause-ok : goal.returns-clause-ok
returns-clause-ok g c =
    let object = g.O.Object.sequential in
    let nodes = c.args.script.now.nodes in
    let lines = c.args.script.now.lines.items in
    let all = c.args.variants in
    IfOk-weaker c.try_share.result (AreTriedIn object nodes lines (0 + share_begin (all - 0) 1 0) (0 + share_begin (all - 0) 1 (0 + 1)))
    (AreTried object nodes lines all) (λ (f : Option Injection) tried. tried_alone object nodes lines all f tried) c.try_share.ensures.ok
