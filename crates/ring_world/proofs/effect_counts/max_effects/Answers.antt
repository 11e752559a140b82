-- One more node.
use Rattle.std.proofs.Common.{[], ◌∷◌, take, length, refl, ap, ◌∙◌, arith}
use Rattle.std.proofs.lemmas.List.{take_all, map-append}
use Rattle.std.proofs.lemmas.Option.{slice_get_read}
use Rattle.ring_base.specs.Numbers.{greatest}
use Rattle.ring_base.proofs.ListPlaces.{greatest-push}
use Rattle.ring_base.proofs.Rows.{take-more}
use Rattle.ring_node_spec.specs.Nodes.{Node}
use Rattle.ring_world.specs.Ordering.{effects_of, effects_of_nodes}
use Rattle.ring_world.proofs.effect_counts.max_effects.Goals as goal
use Rattle.ring_world.proofs.effect_counts.max_effects.Goals.{then-len-most, else-len-most}

pub loop-node-preserved : goal.loop-node-preserved
loop-node-preserved g c =
    let object = g.O.Object.sequential in
    let xs = c.args.nodes.now in
    let i = c.loop-node.node-index in
    let x = c.node-item.result in
    let at = slice_get_read xs (length xs) i x refl c.loop-node-test.true c.node-item.is in
    let more = ap (λ ys. greatest (effects_of_nodes object ys)) (take-more xs i x at)
    ∙ ap greatest (map-append (λ (n : Node g.row.O-Alloc.Denot). effects_of object n) (take i xs) (x ∷ []))
    ∙ greatest-push (effects_of_nodes object (take i xs)) (effects_of object x) in
    let was = c.loop-node.invariant in
    let len = c.order_len-len.ensures in
    elim c.if-len-most.branch [
      | then-len-most w ↦ (let test = w.if-len-most.true in let is = w.most-is in omega (arith, more, was, len, test, is))
      | else-len-most w ↦ (let test = w.if-len-most.false in let is = w.most-is in omega (arith, more, was, len, test, is))
    ]

pub returns : goal.returns
returns g c =
    c.loop-node.invariant ∙ ap (λ ys. greatest (effects_of_nodes g.O.Object.sequential ys))
    (take_all c.loop-node.node-index c.args.nodes.now (omega (arith, c.loop-node-test.false)))
