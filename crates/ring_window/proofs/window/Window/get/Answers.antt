use Rattle.std.proofs.Common.{arith}
use Rattle.ring_window.proofs.Windows.{kept_safe, kept_beyond}
use Rattle.ring_window.proofs.window.Window.get.Goals as goal
use Rattle.ring_window.proofs.window.Window.get.Goals.{then-number-self-via-then-number-self, then-number-self-via-else-number-self+then-number-self-gt-WINDOW_SIZE}

pub returns-then-number-self : goal.returns-then-number-self
returns-then-number-self g c =
    rw (← c.self.view_is) (elim c.then-number-self.branch [
      | then-number-self-via-then-number-self w ↦ kept_safe
          (record { ring = c.self.inside.ring; mark = c.self.inside.mark; held = c.self.inside.history.value })
          c.args.number w.if-number-self.true
      | then-number-self-via-else-number-self+then-number-self-gt-WINDOW_SIZE w ↦ kept_beyond
          (record {
            ring = c.self.inside.ring;
            mark = c.self.inside.mark;
            held = c.self.inside.history.value;
          }) _ _ _ _ c.self.invariant c.args.number (omega arith)
    ])
