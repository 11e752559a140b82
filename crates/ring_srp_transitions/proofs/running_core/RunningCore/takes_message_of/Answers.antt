-- The window of the ring whose messages are taken decides which numbers are new.
use Rattle.std.proofs.Common.{◌≡◌, true, ap, sym, ◌∙◌}
use Rattle.std.proofs.lemmas.Bool.{true≢false}
use Rattle.ring_base.specs.Rings.{same_ring}
use Rattle.ring_base.specs.Processors.{has}
use Rattle.ring_base.proofs.SameRing.{ring_same}
use Rattle.ring_core_spec.specs.Views.{takes_number}
use Rattle.ring_srp_transitions.proofs.OneRingOfCore.{new_by}
use Rattle.ring_srp_transitions.proofs.running_core.RunningCore.takes_message_of.Goals as goal
use Rattle.ring_srp_transitions.proofs.running_core.RunningCore.takes_message_of.Goals.{then-eq, else-eq}

pub returns-then-contains : goal.returns-then-contains
returns-then-contains g c = elim c.if-eq.branch [
  | then-eq w ↦
      (let x = c.args.message.now in
      let e : same_ring x.ring c.args.configuration.now.ring ≡ true = sym c.eq.ensures ∙ w.if-eq.true in
      let h : has c.args.configuration.now.members x.sender ≡ true = sym w.contains.ensures.value ∙ sym w.value-is ∙ c.if-contains.true in
      let r = ring_same x.ring c.args.configuration.now.ring e ∙ c.requires in
      rw (e, h) (c.is_new.ensures ∙ new_by _ _ _ _ x.number c.part_in_use-part.ensures.taken ∙ ap (λ q. takes_number c.args.self.now q x.number) (sym r)))
  | else-eq w ↦ absurd (true≢false (sym c.if-contains.true ∙ w.value-is ∙ w.if-eq.false))
]
