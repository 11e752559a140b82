-- One more node.
use Rattle.std.proofs.Common.{[], ◌∷◌, ◌++◌, length, take, refl, ap, ◌∙◌, sym}
use Rattle.std.proofs.lemmas.List.{take_all}
use Rattle.std.proofs.lemmas.Option.{slice_get_read}
use Rattle.ring_base.proofs.Rows.{take-more}
use Rattle.ring_world.proofs.world.copy_nodes.Goals as goal

pub loop-node-preserved : goal.loop-node-preserved
loop-node-preserved g c =
    let xs = c.args.nodes.now in
    let i = c.loop-node.node-index in
    let x = c.node-item.result in
    let at = slice_get_read xs (length xs) i x refl c.loop-node-test.true c.node-item.is in
    c.in_ok-push.ensures.items ∙ ap (λ ns. ns ++ c.in_ok-copy.copy ∷ []) c.loop-node.invariant
    ∙ ap (λ n. take i xs ++ n ∷ []) c.in_ok-copy.ensures.ok ∙ sym (take-more xs i x at)

pub returns-clause-ok : goal.returns-clause-ok
returns-clause-ok g c = c.loop-node.invariant ∙ take_all c.loop-node.node-index c.args.nodes.now c.loop-node-test.false
