-- One more number is deferred.
use Rattle.std.proofs.Common.{ap, ◌∙◌, sym, refl, Some, None, arith}
use Rattle.std.proofs.lemmas.List.{append-nil}
use Rattle.std.specs.Option.{option_copied}
use Rattle.ring_base.proofs.Cases.{none_from}
use Rattle.ring_srp_state.proofs.DeferredMessages.{sets_more}
use Rattle.ring_srp_state.proofs.recovery_state.RecoveryState.defer_messages.Goals.{in-Some+in_ok-push_copy_if_user, in_default}
use Rattle.ring_srp_state.proofs.recovery_state.RecoveryState.defer_messages.Goals as goal

pub loop-before-preserved : goal.loop-before-preserved
loop-before-preserved g c =
    let r = c.loop-before.self in
    let k = c.loop-before.before in
    elim c.match-get.branch [
      | in-Some+in_ok-push_copy_if_user w ↦ rw w.self-is (
        refl,
        sets_more c.args.self.now r _ k (Some w.in-Some.message.now) c.loop-before.invariant.1
            c.requires.mark c.loop-before.invariant.0 (omega (arith, c.loop-before-test.true, c.front-before-end.ensures))
            (sym (ap option_copied w.in-Some.is) ∙ c.get.ensures) refl refl refl refl (w.in_ok-push_copy_if_user.ensures.ok),
      )
      | in_default w ↦ rw w.self-is (
        refl,
        sets_more c.args.self.now r _ k None c.loop-before.invariant.1 c.requires.mark c.loop-before.invariant.0
            (omega (arith, c.loop-before-test.true, c.front-before-end.ensures)) (sym (ap option_copied (none_from c.get.result w.in_default.not-Some))
            ∙ c.get.ensures) refl refl refl refl (sym (append-nil r.deferred.items)),
      )
    ]
