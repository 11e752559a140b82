-- Each message was appended.
use Rattle.std.proofs.Common.{◌≡◌, [], ◌∷◌, ◌++◌, List, ap, sym, ◌∙◌, append_assoc}
use Rattle.std.proofs.lemmas.List.{map-id, map-append}
use Rattle.std.proofs.lemmas.Iterator.Adapters.{YieldsList-from_vec}
use Rattle.std.proofs.lemmas.Iterator.Consumers.{YieldsList-end}
use Rattle.ring_wire.specs.declared.message.Message.{Message}
use Rattle.ring_core_spec.specs.declared.out.Out.{Out}
use Rattle.ring_core_spec.specs.declared.out.Out.TheVariants.{Agreed}
use Rattle.ring_core_spec.specs.Giving.{all_agreed}
use Rattle.ring_srp_state.proofs.ring_output_lists.give_deferred.Goals as goal

pub returns-clause-ok : goal.returns-clause-ok
returns-clause-ok g c =
    let begun = c.into_iter-message-iterator.ensures.into_iter_gives in
    let received = YieldsList-end (YieldsList-from_vec c.args.messages.items begun.0 (begun.1
    ∙ c.args.messages.ok.0)) c.loop-message.yielded c.loop-message.message-iterator c.loop-message.yielded_by c.next.result c.next.new.self c.in-None.is
    c.next.ensures.steps in
    let same : c.loop-message.yielded ≡ c.args.messages.items = sym (map-id c.loop-message.yielded) ∙ received.0 in
    c.loop-message.invariant ∙ ap (λ (xs : List (Message g.row.A.Denot)). c.args.outs.now.items ++ all_agreed c.args.ring.now xs) same

pub loop-message-preserved : goal.loop-message-preserved
loop-message-preserved g c =
    let outs = c.args.outs.now.items in
    let before = all_agreed c.args.ring.now c.loop-message.yielded in
    let more = all_agreed c.args.ring.now (c.in-Some.message ∷ []) in
    c.in_ok-push.ensures.items
    ∙ ap (λ (x : Out g.row.A.Denot). c.loop-message.outs.items ++ x ∷ []) c.agreed_output.ensures
    ∙ ap (λ (xs : List (Out g.row.A.Denot)). xs ++ more) c.loop-message.invariant
    ∙ append_assoc outs before more
    ∙ ap (λ (xs : List (Out g.row.A.Denot)). outs ++ xs) (sym (map-append (λ (x : Message g.row.A.Denot). Agreed c.args.ring.now x.number x) c.loop-message.yielded (c.in-Some.message ∷ [])))
