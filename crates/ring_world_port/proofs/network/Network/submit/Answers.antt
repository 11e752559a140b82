use Rattle.std.proofs.Common.{rules, ◌≡◌, ◌∙◌, ap, length}
use Rattle.ring_world.specs.WorldView.{WorldView}
use Rattle.ring_world_port.specs.Network.{IsIssuable}
use Rattle.ring_world_port.proofs.Submits.{issued, not_issued}
use Rattle.ring_world_port.proofs.network.Network.submit.Goals as goal

pub returns-in-Err-clause-refused : goal.returns-in-Err-clause-refused
returns-in-Err-clause-refused g c =
    let before : c.told-before.result.now ≡ c.args.self.now.pump.world_view.told = c.told-before.ensures.told
    ∙ ap (λ (p : WorldView g.row.O-Alloc.Denot). p.told) c.world-2.ensures in
    let after : c.told.result.now ≡ c.run_event.new.self.pump.world_view.told = c.told.ensures.told
    ∙ ap (λ (p : WorldView g.row.O-Alloc.Denot). p.told) c.world-3.ensures in
    let happens = rw c.in_ok-copy_of.ensures at c.in_ok-run_event.ensures.done in
    let some = rw after at c.in-Err.ensures.refused in
    let able : IsIssuable c.args.node c.args.call.now c.args.self.now = search rules in
    not_issued g.O.Object.sequential c.args.node c.args.call.now c.args.self.now c.run_event.new.self
    (length c.told-before.result.now) c.in-Err.fault happens c.in_ok-run_event.ensures.group
    c.in_ok-run_event.ensures.timeouts able (ap length before) some

pub returns-clause-issued : goal.returns-clause-issued
returns-clause-issued g c =
    let before : c.told-before.result.now ≡ c.args.self.now.pump.world_view.told = c.told-before.ensures.told
    ∙ ap (λ (p : WorldView g.row.O-Alloc.Denot). p.told) c.world-2.ensures in
    let after : c.told.result.now ≡ c.run_event.new.self.pump.world_view.told = c.told.ensures.told
    ∙ ap (λ (p : WorldView g.row.O-Alloc.Denot). p.told) c.world-3.ensures in
    let happens = rw c.in_ok-copy_of.ensures at c.in_ok-run_event.ensures.done in
    let none = rw after at c.in_default.ensures.ok in
    issued g.O.Object.sequential c.args.node c.args.call.now c.args.self.now c.run_event.new.self
    (length c.told-before.result.now) happens c.in_ok-run_event.ensures.group c.in_ok-run_event.ensures.timeouts
    (ap length before) none
