-- An End is counted for its sender, a user message as one, and any other message as neither.
use Rattle.std.proofs.Common.{true, sym, ◌∙◌, ap}
use Rattle.std.specs.Prelude.{◌||◌}
use Rattle.std.proofs.lemmas.Bool.{or_right}
use Rattle.ring_base.proofs.Cases.{or-false}
use Rattle.ring_recover.proofs.EndsCounted.{end_no_user, counted_end, counted_other}
use Rattle.ring_recover.proofs.ends.EndCounts.count_message.Goals.{then-is_end, else-is_end+then-is_user_payload, else-is_end+else-is_user_payload}
use Rattle.ring_recover.proofs.ends.EndCounts.count_message.Goals as goal

pub invariant_of-self : goal.invariant_of-self
invariant_of-self g c =
    let x = c.args.message.now in
    rw c.with_message_last.ensures (elim c.if-is_end.branch [
      | then-is_end w ↦
          let h = sym c.is_end.ensures ∙ w.if-is_end.true in
          rw (w.self-inside-is, w.max-self-inside.ensures) (counted_end c.self.inside.history.value x _ _ _ _ _ c.self.invariant h
          (end_no_user x.payload h) w.insert.ensures.members)
      | else-is_end+then-is_user_payload w ↦
          rw w.self-inside-is (counted_other c.self.inside.history.value x _ _ _ _ true c.self.invariant (sym c.is_end.ensures
          ∙ w.if-is_end.false) (sym (or_right c.self.inside.has_user _ (sym w.is_user_payload.ensures ∙ w.if-is_user_payload.true))))
      | else-is_end+else-is_user_payload w ↦
          rw w.self-inside-is (counted_other c.self.inside.history.value x _ _ _ _ c.self.inside.has_user c.self.invariant (sym c.is_end.ensures
          ∙ w.if-is_end.false)
          (sym (ap (λ b. c.self.inside.has_user || b) (sym w.is_user_payload.ensures ∙ w.if-is_user_payload.false) ∙ or-false c.self.inside.has_user)))
    ])
