-- What holds of every run holds of this one.
use Rattle.std.proofs.Common.{ap}
use Rattle.ring_world.proofs.WorldsGoOn.{longer_list, goes_on}
use Rattle.ring_world.proofs.world.World.run_one.Goals as goal

pub returns-clause-shows : goal.returns-clause-shows
returns-clause-shows g c =
    let laws = c.linear_law.ensures in
    let q = c.run_event-ran.new.self in
    goes_on g.O.Object.sequential laws.explains laws.grows laws.fronts laws.follows c.args.self.now q c.run_limits_law.ensures.few c.run_limits_law.ensures.keep
    (longer_list g.O.Object.sequential c.args.event.now c.args.self.now q c.run_event-ran.result c.run_event-ran.ensures.ok c.run_event-ran.ensures.err)
