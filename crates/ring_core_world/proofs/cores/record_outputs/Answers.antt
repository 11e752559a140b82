-- The outputs are recorded one by one.
use Rattle.std.proofs.Common.{◌≡◌, ◌++◌, ◌∷◌, [], map, ap, ◌∙◌, sym, append_assoc}
use Rattle.std.proofs.lemmas.List.{map-id, map-append}
use Rattle.std.proofs.lemmas.Iterator.Adapters.{YieldsList-from_vec}
use Rattle.std.proofs.lemmas.Iterator.Consumers.{YieldsList-end}
use Rattle.ring_core_spec.specs.declared.out.Out.{Out}
use Rattle.ring_core_world.proofs.cores.record_outputs.Goals as goal

pub loop-out-preserved : goal.loop-out-preserved
loop-out-preserved g c =
    let before = c.loop-out.yielded in
    let done = map-append (λ (o : Out g.row.A.Denot). (c.args.node, o)) before (c.in-Some.out ∷ []) in (
      c.in_ok-record_output.ensures.outs ∙ ap (λ os. os ++ (c.args.node, c.in-Some.out) ∷ []) c.loop-out.invariant.0
          ∙ append_assoc c.args.outs.now.items (map (λ (o : Out g.row.A.Denot). (c.args.node, o)) before) ((c.args.node, c.in-Some.out) ∷ [])
          ∙ ap (λ os. c.args.outs.now.items ++ os) (sym done),
      c.in_ok-record_output.ensures.places,
    )

pub returns-clause-outs : goal.returns-clause-outs
returns-clause-outs g c =
    let begun = c.into_iter-out-iterator.ensures.into_iter_gives in
    let ended = YieldsList-end (YieldsList-from_vec c.args.given.items begun.0 (begun.1 ∙ c.args.given.ok.0)) c.loop-out.yielded c.loop-out.out-iterator
    c.loop-out.yielded_by c.next.result c.next.new.self c.in-None.is c.next.ensures.steps in
    let all : c.loop-out.yielded ≡ c.args.given.items = sym (map-id c.loop-out.yielded) ∙ ended.0 in
    c.loop-out.invariant.0 ∙ ap (λ xs. c.args.outs.now.items ++ map (λ (o : Out g.row.A.Denot). (c.args.node, o)) xs) all
