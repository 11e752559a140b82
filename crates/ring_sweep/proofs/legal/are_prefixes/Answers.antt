use Rattle.std.proofs.Common.{◌≡◌, ℕ, ◌+◌, ◌≤◌, List, refl, sym, ap, subst, ◌∙◌, arith}
use Rattle.ring_base.specs.Prefixes.{IsListPrefix}
use Rattle.ring_base.specs.Group.{Group}
use Rattle.ring_payload.specs.declared.call.Call.{Call}
use Rattle.ring_session.specs.Deduplicated.{deduplicated}
use Rattle.ring_log.specs.EpochHistories.{committed_of}
use Rattle.ring_node_spec.specs.Worlds.{whole_epochs_in}
use Rattle.ring_console.specs.Worlds.{world_of}
use Rattle.ring_sweep.proofs.Legality.{up_next}
use Rattle.ring_sweep.proofs.legal.are_prefixes.Goals as goal

pub returns-then-not-front-clause-ok : goal.returns-then-not-front-clause-ok
returns-then-not-front-clause-ok g c = (
  λ untrue. absurd (cc (untrue)),
  λ all.
      let w = world_of g.O.Object.sequential c.args.world.now in
      let group = c.args.world.now.group in
      let node = c.loop-before.before + 1 in
      let same : committed_of group (whole_epochs_in w c.new-proc.result) ≡ committed_of group (whole_epochs_in w node) =
      ap (λ (n : ℕ). committed_of group (whole_epochs_in w n)) c.new-proc.ensures in
      let count : c.fixed.result.count ≡ c.args.world.now.group.count = ap (λ (x : Group). x.count) c.fixed.ensures in
      let most : node ≤ c.args.world.now.group.count = omega (arith, c.loop-before-test.true, c.count-before-end.ensures.value, count) in
      let front = subst (λ (cs : List (Call g.row.O-Alloc.Denot)). IsListPrefix (deduplicated cs) c.args.order.now) (sym same)
      (all node (omega arith) most) in
      sym c.if-not-front.true ∙ c.in_ok-front.ensures.ok.1 front,
)

pub loop-before-preserved : goal.loop-before-preserved
loop-before-preserved g c =
    let w = world_of g.O.Object.sequential c.args.world.now in
    let group = c.args.world.now.group in
    let node = c.loop-before.before + 1 in
    let same : committed_of group (whole_epochs_in w c.new-proc.result) ≡ committed_of group (whole_epochs_in w node) =
    ap (λ (n : ℕ). committed_of group (whole_epochs_in w n)) c.new-proc.ensures in
    up_next (λ (n : ℕ). IsListPrefix (deduplicated (committed_of group (whole_epochs_in w n))) c.args.order.now) c.loop-before.before c.loop-before.invariant
    (subst (λ (cs : List (Call g.row.O-Alloc.Denot)). IsListPrefix (deduplicated cs) c.args.order.now) same
    (c.in_ok-front.ensures.ok.0 c.if-not-front.false))

pub returns-clause-ok : goal.returns-clause-ok
returns-clause-ok g c =
    let count : c.fixed.result.count ≡ c.args.world.now.group.count = ap (λ (x : Group). x.count) c.fixed.ensures in
    let passed = c.loop-before-test.false in
    let end = c.count-before-end.ensures.value in
    (λ yes node one most. c.loop-before.invariant node one (omega (arith, most, passed, end, count)), λ all. refl)
