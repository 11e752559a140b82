-- Number by number, until there are `most` payloads; then the End.
use Rattle.std.proofs.Common.{◌<◌, ◌≤◌, length, sym, ap, ◌∙◌, arith}
use Rattle.ring_base.proofs.Cases.{none_from}
use Rattle.ring_window.specs.Held.{highest}
use Rattle.ring_srp_state.proofs.WrapsByNumber.{made_one, made_next, made_full, made_end, made_all}
use Rattle.ring_srp_state.proofs.wrapping.first_recovery_messages.Goals as goal
use Rattle.ring_srp_state.proofs.wrapping.first_recovery_messages.Goals.{in-Some+in_ok-push, in_default}
use Rattle.ring_srp_state.proofs.wrapping.first_recovery_messages.Goals.{then-len-most-2+then-not-has_ended+in_ok-push-2}
use Rattle.ring_srp_state.proofs.wrapping.first_recovery_messages.Goals.{else-len-most-2}
use Rattle.ring_srp_state.proofs.wrapping.first_recovery_messages.Goals.{else-len-most-2-via-then-len-most-2+else-not-has_ended}
use Rattle.ring_srp_state.proofs.wrapping.first_recovery_messages.Goals.{else-len-most-2-via-else-len-most-2}

pub returns-then-len-most-clause-items : goal.returns-then-len-most-clause-items
returns-then-len-most-clause-items g c =
    made_full c.args.plan.now c.args.window.now.held c.args.most c.loop-before.before c.loop-before.payloads.items
    (omega (arith, c.len.ensures, c.if-len-most.true, c.loop-before.payloads.ok.0)) c.loop-before.invariant

pub loop-before-preserved : goal.loop-before-preserved
loop-before-preserved g c =
    let r = c.args.plan.now in
    let w = c.args.window.now in
    let made = c.loop-before.payloads.items in
    let top : c.loop-before.before < highest w.held r.plan.old = omega
    (arith, c.loop-before-test.true, c.highest-before-end.ensures, ap (highest w.held) c.requires.ring) in
    let room : length made < c.args.most = omega (arith, c.loop-before.invariant.few, c.if-len-most.false, c.len.ensures) in
    elim c.match-branch-2.branch [
      | in-Some+in_ok-push v ↦ rw (v.payloads-is, v.in_ok-push.ensures.items)
          (made_one r w.held c.args.most c.loop-before.before made v.in-Some.payload top room
          (sym v.in-Some.is ∙ c.in_ok-payload.ensures.ok) c.loop-before.invariant)
      | in_default v ↦ rw v.payloads-is
          (made_next r w.held c.args.most c.loop-before.before made top
          (sym (none_from c.in_ok-payload.field-0 v.in_default.not-Some) ∙ c.in_ok-payload.ensures.ok) c.loop-before.invariant)
    ]

pub returns-clause-items : goal.returns-clause-items
returns-clause-items g c =
    let r = c.args.plan.now in
    let w = c.args.window.now in
    let made = c.loop-before.payloads.items in
    let over : highest w.held r.plan.old ≤ c.loop-before.before = omega
    (arith, c.loop-before-test.false, c.highest-before-end.ensures, ap (highest w.held) c.requires.ring) in
    elim c.if-len-most-2.branch [
      | then-len-most-2+then-not-has_ended+in_ok-push-2 v ↦ rw (v.payloads-is, v.in_ok-push-2.ensures.items)
          (made_end r w.held c.args.most c.loop-before.before made over (omega (arith, v.if-len-most-2.true, c.len-2.ensures))
          (sym v.has_ended.ensures ∙ v.if-not-has_ended.true) c.loop-before.invariant)
      | else-len-most-2 v ↦ rw v.payloads-is (elim v.else-len-most-2.branch [
        | else-len-most-2-via-then-len-most-2+else-not-has_ended u ↦
            made_all r w.held c.args.most c.loop-before.before made over (sym u.has_ended.ensures ∙ u.if-not-has_ended.false) c.loop-before.invariant
        | else-len-most-2-via-else-len-most-2 u ↦
            made_full r w.held c.args.most c.loop-before.before made
            (omega (arith, u.if-len-most-2.false, c.len-2.ensures, c.loop-before.invariant.few)) c.loop-before.invariant
      ])
    ]
