-- Number by number, the window's message is sent.
use Rattle.std.proofs.Common.{◌≡◌, ◌<◌, ◌≤◌, ◌++◌, ◌∷◌, [], length, get_or, refl, subst, ap, sym, ◌∙◌}
use Rattle.std.specs.Prelude.{option_copied}
use Rattle.ring_wire.specs.declared.frame.Frame.TheVariants.{Message as MessageFrame}
use Rattle.ring_core_spec.specs.Giving.{sends_with_receivers}
use Rattle.ring_srp_transitions.proofs.Visits.{repeated_all, repeated_less, repeated_more}
use Rattle.ring_srp_transitions.proofs.running_core.RunningCore.repeat_requested.Goals.{in-Some+in_ok-send_message, in_default}
use Rattle.ring_srp_transitions.proofs.running_core.RunningCore.repeat_requested.Goals as goal

pub loop-number-init : goal.loop-number-init
loop-number-init g c = refl

pub loop-number-preserved : goal.loop-number-preserved
loop-number-preserved g c =
    let now = c.args.self.now in
    let t = c.args.token.now in
    let p = c.part_in_use.result.now in
    let is = c.part_in_use.ensures.running c.requires.runs in
    let i = c.loop-number.number-index in
    let items = c.as_slice-number-items.result.now in
    let n = get_or items i 0 in
    let inside : i < length t.requests = subst (λ xs. i < length xs) c.as_slice-number-items.ensures.value c.loop-number-test.true in
    let at : n ≡ get_or t.requests i 0 = ap (λ xs. get_or xs i 0) c.as_slice-number-items.ensures.value in
    elim c.match-get.branch [
      | in-Some+in_ok-send_message w ↦
          (let x = w.in-Some.message.now in
          let forwarded = w.in_ok-send_message.ensures.ok
          ∙ ap (λ o. c.loop-number.sends.items ++ sends_with_receivers (record { to = o; frame = MessageFrame x } ∷ []))
          c.other_members-others.ensures in
          rw w.sends-is (repeated_more now p.window p.visit t c.args.sends.now.items c.loop-number.sends.items i n x
          w.send_message.new.sends.items is c.requires.passes inside at
          (sym c.get.ensures ∙ ap option_copied w.in-Some.is) forwarded c.loop-number.invariant))
      | in_default w ↦ rw w.sends-is (repeated_less now p.window p.visit t c.args.sends.now.items c.loop-number.sends.items i n is c.requires.passes inside at
          (sym c.get.ensures ∙ ap option_copied w.in_default.is) c.loop-number.invariant)
    ]

pub returns-clause-ok : goal.returns-clause-ok
returns-clause-ok g c =
    let t = c.args.token.now in
    let p = c.part_in_use.result.now in
    let all : length t.requests ≤ c.loop-number.number-index = subst (λ xs. length xs ≤ c.loop-number.number-index)
    c.as_slice-number-items.ensures.value c.loop-number-test.false in
    repeated_all c.args.self.now p.window p.visit t c.args.sends.now.items c.loop-number.sends.items c.loop-number.number-index all c.loop-number.invariant
