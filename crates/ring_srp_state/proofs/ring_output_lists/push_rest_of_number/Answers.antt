-- The message that the window keeps under a number is the one found.
use Rattle.std.proofs.Common.{◌≡◌, ◌++◌, List, Some, None, ap, sym, ◌∙◌}
use Rattle.std.specs.Option.{option_copied}
use Rattle.std.proofs.lemmas.List.{append-nil}
use Rattle.std.proofs.lemmas.Result.{on_ok_weaker}
use Rattle.ring_window.specs.Windows.{message_above_mark}
use Rattle.ring_core_spec.specs.declared.out.Out.{Out}
use Rattle.ring_srp_state.proofs.Rests.{rest_some, rest_none}
use Rattle.ring_srp_state.proofs.ring_output_lists.push_rest_of_number.Goals as goal

pub returns-in-Some-clause-ok : goal.returns-in-Some-clause-ok
returns-in-Some-clause-ok g c =
    let w = c.args.window.now in
    let some : message_above_mark w c.args.number ≡ Some c.in-Some.message.now = sym c.get.ensures ∙ ap option_copied c.in-Some.is in
    on_ok_weaker c.push_rest_if_user.result (λ h. h ∙ ap (λ (xs : List (Out g.row.A.Denot)). c.args.outs.now.items
    ++ xs) (rest_some w c.args.number c.in-Some.message.now some)) c.push_rest_if_user.ensures.ok

pub returns-in-None-clause-ok : goal.returns-in-None-clause-ok
returns-in-None-clause-ok g c =
    let w = c.args.window.now in
    let none : message_above_mark w c.args.number ≡ None = sym c.get.ensures ∙ ap option_copied c.in-None.is in
    sym (append-nil c.args.outs.now.items) ∙ ap (λ (xs : List (Out g.row.A.Denot)). c.args.outs.now.items ++ xs) (rest_none w c.args.number none)
