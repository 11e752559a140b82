use Rattle.std.proofs.Common.{◌++◌, ◌∷◌, [], length, refl, ap, sym, ◌∙◌, add-one, append_assoc, append-nil, take}
use Rattle.std.proofs.lemmas.List.{take_all}
use Rattle.std.proofs.lemmas.Option.{slice_get_read}
use Rattle.ring_base.proofs.Rows.{take-found}
use Rattle.ring_session.proofs.Adding.{effects-as}
use Rattle.ring_session.proofs.effects.Effects.add_all.Goals as goal

pub loop-call-init : goal.loop-call-init
loop-call-init g c = λ before h. effects-as h (sym (append-nil before))

pub loop-call-preserved : goal.loop-call-preserved
loop-call-preserved g c =
    let k = c.loop-call.call-index in
    let x = c.call-item.result in
    let at = slice_get_read c.args.calls.now (length c.args.calls.now) k x refl c.loop-call-test.true c.call-item.is in
    rw add-one (λ before h.
    let more = append_assoc before (take k c.args.calls.now) (x ∷ []) ∙ ap (λ zs. before ++ zs) (sym (take-found c.args.calls.now k x at)) in
    effects-as (c.in_ok-add.ensures.ok (before ++ take k c.args.calls.now) (c.loop-call.invariant before h)) more)

pub returns-clause-ok : goal.returns-clause-ok
returns-clause-ok g c = λ before h.
    effects-as (c.loop-call.invariant before h) (ap (λ zs. before ++ zs) (take_all c.loop-call.call-index c.args.calls.now c.loop-call-test.false))
