-- One set bit whose number isn't held decides.
use Rattle.std.proofs.Common.{sym, ◌∙◌, arith}
use Rattle.ring_window.specs.Held.{holds}
use Rattle.ring_recover.proofs.NumbersPassing.{chosen_pass}
use Rattle.ring_recover.proofs.Planning.{not_all}
use Rattle.ring_recover.proofs.plan.holds_all_offsets.Goals as goal

pub returns-then-not-holds_offset : goal.returns-then-not-holds_offset
returns-then-not-holds_offset g c =
    not_all (holds c.args.window.now.held c.args.window.now.ring) c.args.after c.args.offsets.now.words c.loop-j.j (omega arith) (sym c.contains_offset.ensures
    ∙ c.if-contains_offset.true) (sym c.holds_offset.ensures ∙ c.if-not-holds_offset.true)

pub returns : goal.returns
returns g c = sym (chosen_pass (holds c.args.window.now.held c.args.window.now.ring) c.args.after c.args.offsets.now.words
    (λ j l s. c.loop-j.invariant j (omega arith) s))
