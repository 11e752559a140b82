-- Each frame was appended, and the other outputs follow.
use Rattle.std.proofs.Common.{◌≡◌, ◌++◌, List, map, ap, sym, ◌∙◌}
use Rattle.std.proofs.lemmas.List.{map-id}
use Rattle.std.proofs.lemmas.Iterator.Adapters.{YieldsList-from_vec}
use Rattle.std.proofs.lemmas.Iterator.Consumers.{YieldsList-end}
use Rattle.ring_core_spec.specs.State.{OutgoingFrame}
use Rattle.ring_core_spec.specs.declared.out.Out.{Out}
use Rattle.ring_core_spec.specs.declared.out.Out.TheVariants.{Send}
use Rattle.ring_srp.proofs.stepping.concatenate_outputs.Goals as goal

pub returns-clause-ok : goal.returns-clause-ok
returns-clause-ok g c =
    let begun = c.into_iter-sent-iterator.ensures.into_iter_gives in
    let received = YieldsList-end (YieldsList-from_vec c.args.sends.items begun.0 (begun.1
    ∙ c.args.sends.ok.0)) c.loop-sent.yielded c.loop-sent.sent-iterator c.loop-sent.yielded_by c.next.result c.next.new.self c.in-None.is
    c.next.ensures.steps in
    let same : c.loop-sent.yielded ≡ c.args.sends.items = sym (map-id c.loop-sent.yielded) ∙ received.0 in
    c.in_ok-append.ensures.items
    ∙ ap (λ (xs : List (Out g.row.A.Denot)). xs ++ c.args.other_outputs.items) c.loop-sent.invariant
    ∙ ap (λ (xs : List (OutgoingFrame g.row.A.Denot)). map (λ (s : OutgoingFrame g.row.A.Denot). Send s.to s.frame) xs ++ c.args.other_outputs.items) same
