-- One more frame is stored.
use Rattle.std.proofs.Common.{◌≡◌, ◌+◌, ◌-◌, [], ◌∷◌, ◌++◌, map, take, length, refl, ap, ◌∙◌, sym, subst, arith, append_assoc}
use Rattle.std.proofs.lemmas.List.{map-append}
use Rattle.std.proofs.lemmas.Option.{slice_get_read}
use Rattle.ring_core_spec.specs.State.{OutgoingFrame, Transmission}
use Rattle.ring_node_spec.specs.Worlds.{carried_frames}
use Rattle.ring_world.specs.StoredFramesView.{HasRoom}
use Rattle.ring_base.proofs.Rows.{take-more}
use Rattle.ring_world.proofs.world.record_frames.Goals as goal

pub loop-sent-preserved : goal.loop-sent-preserved
loop-sent-preserved g c =
    let xs = c.args.sends.now in
    let x = c.sent-item.result in
    let i = c.loop-sent.sent-index in
    let within = c.loop-sent-test.true in
    let at = slice_get_read xs (length xs) i x refl within c.sent-item.is in
    let carries : OutgoingFrame g.row.A.Denot → Transmission g.row.A.Denot = λ s. record { from = c.args.from; to = s.to; frame = s.frame } in
    let left : (length xs - (i + 1)) + 1 ≡ length xs - i = omega (arith, within) in (
      c.append_frame.ensures.frames ∙ ap (λ (s : OutgoingFrame g.row.A.Denot). c.loop-sent.frames.frames ++ carries s ∷ [])
          c.sent.view_is ∙ ap (λ fs. fs ++ carries x ∷ []) c.loop-sent.invariant.0
          ∙ append_assoc c.args.frames.now.frames (carried_frames c.args.from (take i xs)) (carries x ∷ [])
          ∙ ap (λ fs. c.args.frames.now.frames ++ fs) (sym (map-append carries (take i xs) (x ∷ [])) ∙ ap (map carries) (sym (take-more xs i x at))),
      c.append_frame.ensures.room (length xs - (i + 1)) (subst (λ n. HasRoom n c.loop-sent.frames) (sym left) c.loop-sent.invariant.1),
    )
