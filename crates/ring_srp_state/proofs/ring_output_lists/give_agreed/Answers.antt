-- The user messages so far, and one more in each iteration.
use Rattle.std.proofs.Common.{◌+◌, ◌≤◌, max, ◌++◌, ap, sym, ◌∙◌, append_assoc, arith}
use Rattle.std.proofs.lemmas.List.{append-nil}
use Rattle.std.specs.Option.{option_copied}
use Rattle.ring_base.proofs.Cases.{none_from}
use Rattle.ring_window.specs.Held.{front_of}
use Rattle.ring_recover.proofs.MessagesInFront.{kept_found}
use Rattle.ring_srp_state.specs.Users.{agreed_in, agreed_of}
use Rattle.ring_srp_state.proofs.UsersOfWindow.{agreed_first, agreed_some, agreed_none, agreed_last}
use Rattle.ring_srp_state.proofs.ring_output_lists.give_agreed.Goals.{in-Some+in_ok-push_agreed_if_user, in_default}
use Rattle.ring_srp_state.proofs.ring_output_lists.give_agreed.Goals as goal

pub loop-before-init : goal.loop-before-init
loop-before-init g c =
    let outs = c.args.outs.now.items in
    (sym (ap (λ ys. outs ++ ys) (agreed_first c.args.window.now c.args.below) ∙ append-nil outs), omega arith, omega arith)

pub loop-before-preserved : goal.loop-before-preserved
loop-before-preserved g c =
    let w = c.args.window.now in
    let k = c.loop-before.before in
    let below = c.args.below in
    let outs = c.args.outs.now.items in
    let there = kept_found w (k + 1) (omega (arith, c.requires, c.loop-before.invariant.1)) in
    let top : k + 1 ≤ max below (front_of w.held w.ring) = omega (arith, c.loop-before-test.true, c.front-before-end.ensures) in
    elim c.match-get.branch [
      | in-Some+in_ok-push_agreed_if_user v ↦ rw v.outs-is (
        v.in_ok-push_agreed_if_user.ensures.ok
            ∙ ap (λ q. c.loop-before.outs.items ++ agreed_of q v.in-Some.message.now) v.ring.ensures
            ∙ ap (λ ys. ys ++ agreed_of w.ring v.in-Some.message.now) c.loop-before.invariant.0
            ∙ append_assoc outs (agreed_in w below k) (agreed_of w.ring v.in-Some.message.now)
            ∙ ap (λ ys. outs ++ ys) (sym (agreed_some w below k v.in-Some.message.now c.loop-before.invariant.1 (sym there ∙ sym c.get.ensures
            ∙ ap option_copied v.in-Some.is))),
        omega (arith, c.loop-before.invariant.1),
        top,
      )
      | in_default v ↦ rw v.outs-is (
        c.loop-before.invariant.0 ∙ ap (λ ys. outs ++ ys) (sym
            (agreed_none w below k c.loop-before.invariant.1 (sym there ∙ sym c.get.ensures
            ∙ ap option_copied (none_from c.get.result v.in_default.not-Some)))),
        omega (arith, c.loop-before.invariant.1),
        top,
      )
    ]

pub returns-clause-ok : goal.returns-clause-ok
returns-clause-ok g c =
    let w = c.args.window.now in
    let e = c.front-before-end.ensures in
    c.loop-before.invariant.0
    ∙ ap (λ ys. c.args.outs.now.items ++ ys) (agreed_last w c.args.below c.loop-before.before (front_of w.held w.ring) c.loop-before.invariant.1
    (omega (arith, c.loop-before-test.false, e)) c.loop-before.invariant.2)
