use Rattle.std.proofs.Common.{sym, ◌∙◌}
use Rattle.std.proofs.lemmas.Bool.{le-leb}
use Rattle.ring_recover.proofs.EndsCounted.{ready_then, ready_else, ready_not}
use Rattle.ring_recover.proofs.ends.EndCounts.is_ready.Goals as goal

pub returns-then-self-mark : goal.returns-then-self-mark
returns-then-self-mark g c = rw (← c.self.view_is) (le-leb _ _ c.if-self-mark.true
    ∙ ready_then _ _ _ _ _ c.args.members c.args.mark c.self.invariant (sym c.has_all_members.ensures ∙ c.if-has_all_members.true) c.if-self-mark.true)

pub returns-else-self-mark : goal.returns-else-self-mark
returns-else-self-mark g c = rw (← c.self.view_is) (ready_else _ _ _ _ _ c.args.members c.args.mark c.self.invariant (sym c.has_all_members.ensures
    ∙ c.if-has_all_members.true) c.if-self-mark.false)

pub returns-else-has_all_members : goal.returns-else-has_all_members
returns-else-has_all_members g c = rw (← c.self.view_is) (c.if-has_all_members.false
    ∙ ready_not _ _ _ _ _ c.args.members c.args.mark c.self.invariant (sym c.has_all_members.ensures ∙ c.if-has_all_members.false))
