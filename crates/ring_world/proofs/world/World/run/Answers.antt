-- What holds of every run holds of this one.
use Rattle.std.proofs.Common.{take, sym, subst}
use Rattle.ring_base.specs.Prefixes.{IsListPrefix}
use Rattle.ring_node_spec.specs.Worlds.{World, world_opening, order}
use Rattle.ring_order_proof.specs.Projection.{core_events_of_run}
use Rattle.ring_world.specs.WorldView.{WorldView, world_of, IsRunOfEvents}
use Rattle.ring_world.proofs.Playing.{plays_from, plays_longer, world_later}
use Rattle.ring_order_proof.proofs.SynchronousRuns.{synchronous_run}
use Rattle.ring_world.proofs.OutputsGrow.{longer_told}
use Rattle.ring_world.proofs.world.World.run.Goals as goal

pub returns-clause-plays : goal.returns-clause-plays
returns-clause-plays g c =
    let k = c.self.inside in
    let object = g.O.Object.sequential in
    let p : WorldView g.row.O-Alloc.Denot = record { group = k.fixed; events = k.run_record.events.items; told = k.run_record.told.items; done = k.done } in
    let q = c.run_all-ran.new.self in
    let es = take q.done c.args.events.now in
    subst (λ (r : WorldView g.row.O-Alloc.Denot). IsRunOfEvents object es r q) c.self.view_is (plays_from object es 0 p q c.run_all-ran.ensures.plays)

pub returns-clause-explains : goal.returns-clause-explains
returns-clause-explains g c =
    let q = c.run_all-ran.new.self in
    c.linear_law.ensures.explains q.group q.events c.run_limits_law.ensures.few c.run_limits_law.ensures.keep

pub returns-clause-grows : goal.returns-clause-grows
returns-clause-grows g c =
    let k = c.self.inside in
    let object = g.O.Object.sequential in
    let p : WorldView g.row.O-Alloc.Denot = record { group = k.fixed; events = k.run_record.events.items; told = k.run_record.told.items; done = k.done } in
    let q = c.run_all-ran.new.self in
    let es = take q.done c.args.events.now in
    let l = plays_longer object es p q (plays_from object es 0 p q c.run_all-ran.ensures.plays) in
    subst (λ (r : WorldView g.row.O-Alloc.Denot). IsListPrefix (order (world_of object r)) (order (world_of object q))) c.self.view_is
    (subst (λ (x : World g.row.O-Alloc.Denot). IsListPrefix (order (world_of object p)) (order x)) (sym (world_later object p q l))
    (c.linear_law.ensures.grows k.fixed k.run_record.events.items l.later c.self.invariant.few))

pub returns-clause-fronts : goal.returns-clause-fronts
returns-clause-fronts g c = λ node low high.
    let q = c.run_all-ran.new.self in
    c.linear_law.ensures.fronts q.group q.events node c.run_limits_law.ensures.few low high

pub returns-clause-follows : goal.returns-clause-follows
returns-clause-follows g c = λ node low high.
    let q = c.run_all-ran.new.self in
    c.linear_law.ensures.follows q.group q.events node c.run_limits_law.ensures.few c.run_limits_law.ensures.keep low high

pub returns-clause-synchronous : goal.returns-clause-synchronous
returns-clause-synchronous g c = synchronous_run g.O.Object.sequential c.run_all-ran.new.self.group c.run_all-ran.new.self.events

pub returns-clause-outs_grow : goal.returns-clause-outs_grow
returns-clause-outs_grow g c =
    let k = c.self.inside in
    let object = g.O.Object.sequential in
    let p : WorldView g.row.O-Alloc.Denot = record { group = k.fixed; events = k.run_record.events.items; told = k.run_record.told.items; done = k.done } in
    let q = c.run_all-ran.new.self in
    let es = take q.done c.args.events.now in
    let l = plays_longer object es p q (plays_from object es 0 p q c.run_all-ran.ensures.plays) in
    subst (λ (r : WorldView g.row.O-Alloc.Denot). IsListPrefix (core_events_of_run object (world_opening r.group) r.events).outs
    (core_events_of_run object (world_opening q.group) q.events).outs) c.self.view_is (longer_told object p q l)
