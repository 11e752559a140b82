-- One more item is recorded.
use Rattle.std.proofs.Common.{List, length, take, refl, sym, subst, length-take-le, ◌≤◌, arith}
use Rattle.std.proofs.lemmas.List.{take_all}
use Rattle.std.proofs.lemmas.Option.{slice_get_read}
use Rattle.ring_base.proofs.Rows.{take-more}
use Rattle.ring_node_spec.specs.declared.item.Item.{Item}
use Rattle.ring_checker.specs.Checks.{ArePlaces}
use Rattle.ring_checker.proofs.check.note_issues.Goals as goal

pub loop-k-preserved : goal.loop-k-preserved
loop-k-preserved g c =
    let order = c.args.order.now in
    let history = c.args.history.now in
    let k = c.loop-k.k in
    let at = slice_get_read history (length history) k c.index-history-k.result refl c.loop-k-test.true c.index-history-k.is in
    let within : k ≤ length history = omega (arith, c.loop-k-test.true) in
    subst (λ (past : List (Item g.row.O-Alloc.Denot)). ArePlaces g.O.Object.sequential order past (length order) c.note_issue.new.places)
    (sym (take-more history k c.index-history-k.result at))
    (c.note_issue.ensures (take k history) (length-take-le k history within) c.loop-k.invariant)

pub returns : goal.returns
returns g c =
    let order = c.args.order.now in
    let history = c.args.history.now in
    subst (λ (past : List (Item g.row.O-Alloc.Denot)). ArePlaces g.O.Object.sequential order past (length order) c.loop-k.places)
    (take_all c.loop-k.k history c.loop-k-test.false) c.loop-k.invariant
