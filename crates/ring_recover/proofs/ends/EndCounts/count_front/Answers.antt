-- The messages in the front so far, and one more in each iteration.
use Rattle.std.proofs.Common.{◌≡◌, ◌+◌, ◌≤◌, [], ◌∷◌, ◌++◌, length, ap, sym, ◌∙◌, arith}
use Rattle.std.specs.Option.{option_copied}
use Rattle.ring_base.proofs.Cases.{none_from}
use Rattle.ring_window.specs.Held.{front_of}
use Rattle.ring_recover.proofs.MessagesInFront.{up_to, up_to_few, up_to_some, up_to_none, front_short, front_up_to, kept_found}
use Rattle.ring_recover.proofs.ends.EndCounts.count_front.Goals.{in-Some, in_default}
use Rattle.ring_recover.proofs.ends.EndCounts.count_front.Goals as goal

pub loop-before-init : goal.loop-before-init
loop-before-init g c =
    let w = c.args.window.now in
    let n : c.self.inside.upto ≡ length c.args.self.now = c.self.invariant.count ∙ ap length c.self.view_is in
    let short = front_short w.held w.ring c.args.self.now c.requires.front in
    (front_up_to w.held w.ring c.args.self.now c.requires.front ∙ ap (up_to w.held w.ring) (sym n), omega (arith, short, n), omega (arith, c.requires.mark, n))

pub count_message-requires : goal.count_message-requires
count_message-requires g c =
    let w = c.args.window.now in
    omega (arith, ap length c.loop-before.invariant.0, up_to_few w.held w.ring c.loop-before.before)

pub loop-before-preserved : goal.loop-before-preserved
loop-before-preserved g c =
    let w = c.args.window.now in
    let k = c.loop-before.before in
    let there = kept_found w (k + 1) (omega (arith, c.loop-before.invariant.2)) in
    let inside : k + 1 ≤ front_of w.held w.ring = omega (arith, c.loop-before-test.true, c.front-before-end.ensures) in
    let above : w.mark ≤ k + 1 = omega (arith, c.loop-before.invariant.2) in
    elim c.match-get.branch [
      | in-Some v ↦ rw v.self-is (
        v.count_message.ensures ∙ ap (λ xs. xs ++ v.in-Some.message.now ∷ []) c.loop-before.invariant.0
            ∙ sym (up_to_some w.held w.ring k v.in-Some.message.now (sym there ∙ sym c.get.ensures ∙ ap option_copied v.in-Some.is)),
        inside,
        above,
      )
      | in_default v ↦ rw v.self-is (
        c.loop-before.invariant.0 ∙ sym (up_to_none w.held w.ring k (sym there ∙ sym c.get.ensures
            ∙ ap option_copied (none_from c.get.result v.in_default.not-Some))),
        inside,
        above,
      )
    ]
