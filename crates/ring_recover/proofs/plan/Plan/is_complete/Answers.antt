-- The known numbers above the greatest safe mark are those of the bits.
use Rattle.std.proofs.Common.{sym, ap, ◌∙◌, arith}
use Rattle.std.proofs.lemmas.Bool.{lt-leb}
use Rattle.ring_recover.specs.RecoveryState.{RecoveryState}
use Rattle.ring_recover.proofs.Planning.{complete_front, complete_behind}
use Rattle.ring_recover.proofs.plan.Plan.is_complete.Goals as goal

pub returns-then-self-front : goal.returns-then-self-front
returns-then-self-front g c =
    rw (← c.self.view_is) (c.holds_all_offsets.ensures ∙ complete_front _ _ _ _ _ _ _ _ _ c.self.invariant c.args.window.now (c.requires.ring
    ∙ sym (ap (λ (r : RecoveryState g.row.A.Denot). r.plan.old) c.self.view_is)) (omega (arith, c.if-self-front.true, c.front.ensures)))

pub returns-else-self-front : goal.returns-else-self-front
returns-else-self-front g c =
    rw (← c.self.view_is) (lt-leb c.self.inside.safe c.front.result c.if-self-front.false
    ∙ complete_behind _ _ _ _ _ _ _ _ _ c.self.invariant c.args.window.now (c.requires.ring
    ∙ sym (ap (λ (r : RecoveryState g.row.A.Denot). r.plan.old) c.self.view_is)) (omega (arith, c.if-self-front.false, c.front.ensures)))
