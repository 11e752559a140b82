use Rattle.std.proofs.Common.{◌∙◌, arith}
use Rattle.ring_window.proofs.Windows.{holds_safe, holds_after}
use Rattle.ring_window.proofs.window.Window.has_taken.Goals as goal

pub returns-then-number-self : goal.returns-then-number-self
returns-then-number-self g c = rw (← c.self.view_is) (holds_safe _ _ _ _ _ c.self.invariant c.args.number c.if-number-self.true)

pub returns : goal.returns
returns g c = rw (← c.self.view_is) (c.is_set.ensures ∙ holds_after _ _ _ _ _ c.self.invariant c.args.number (omega arith))
