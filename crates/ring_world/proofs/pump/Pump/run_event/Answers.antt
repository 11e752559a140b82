use Rattle.ring_world.proofs.PumpRunning.{happened, rested, still_reached}
use Rattle.ring_world.proofs.pump.Pump.run_event.Goals as goal

pub invariant_of-self : goal.invariant_of-self
invariant_of-self g c =
    still_reached g.O.Object.sequential c.self.inside.open_copies c.args.event c.self.inside.world c.run_one.new.self
    c.self.invariant c.run_one.result c.run_one.ensures.ok c.run_one.ensures.err

pub returns-clause-done : goal.returns-clause-done
returns-clause-done g c =
    rw (← c.self.view_is) (happened g.O.Object.sequential c.self.inside.open_copies c.args.event c.self.inside.world c.run_one.new.self
    c.self.invariant c.run_one.result c.run_one.ensures.done c.run_one.ensures.ok)

pub returns-clause-rests : goal.returns-clause-rests
returns-clause-rests g c =
    rw (← c.self.view_is) (rested g.O.Object.sequential c.self.inside.open_copies c.args.event c.self.inside.world c.run_one.new.self
    c.self.invariant c.run_one.result c.run_one.ensures.err)
