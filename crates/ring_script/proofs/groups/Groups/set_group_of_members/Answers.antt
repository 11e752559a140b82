use Rattle.std.proofs.Common.{◌≡◌, ◌+◌, ◌<◌, ◌≤◌, true, false, length, get_or, refl, sym, ◌∙◌, arith}
use Rattle.std.proofs.lemmas.List.{length-set, get_or_default}
use Rattle.ring_base.specs.Processors.{has}
use Rattle.ring_script.proofs.Cutting.{placed_at, placed_all}
use Rattle.ring_script.proofs.groups.Groups.set_group_of_members.Goals as goal
use Rattle.ring_script.proofs.groups.Groups.set_group_of_members.Goals.{then-contains, else-contains}

pub loop-i-preserved : goal.loop-i-preserved
loop-i-preserved c =
    let inside : c.loop-i.i < length c.loop-i.kept-items = omega arith in
    elim c.if-contains.branch [
      | then-contains w ↦
          let holds : has c.args.group (c.loop-i.i + 1) ≡ true = rw (← c.new.ensures) (sym c.contains.ensures.value ∙ w.if-contains.true) in
          rw w.kept-items-is (record {
            long = length-set c.loop-i.kept-items c.loop-i.i c.args.group ∙ c.loop-i.invariant.long;
            same = placed_at c.args.group c.loop-i.i c.loop-i.kept-items c.args.group inside (rw holds refl) ∙ c.loop-i.invariant.same;
          })
      | else-contains w ↦
          let lacks : has c.args.group (c.loop-i.i + 1) ≡ false = rw (← c.new.ensures) (sym c.contains.ensures.value ∙ w.if-contains.false) in
          rw w.kept-items-is (record {
            long = length-set c.loop-i.kept-items c.loop-i.i (get_or c.loop-i.kept-items c.loop-i.i c.kept-item.result) ∙ c.loop-i.invariant.long;
            same = placed_at c.args.group c.loop-i.i c.loop-i.kept-items
                (get_or c.loop-i.kept-items c.loop-i.i c.kept-item.result) inside
                (rw lacks (get_or_default c.loop-i.kept-items c.loop-i.i c.kept-item.result 0 inside))
                ∙ c.loop-i.invariant.same;
          })
    ]

pub returns : goal.returns
returns c =
    let past : length c.loop-i.kept-items ≤ c.loop-i.i = omega arith in
    rw (← c.self.view_is) (placed_all c.args.group c.loop-i.i c.loop-i.kept-items _ past c.loop-i.invariant.same)
