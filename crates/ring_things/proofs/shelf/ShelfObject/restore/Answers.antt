use Rattle.std.proofs.Common.{ap}
use Rattle.std.proofs.lemmas.Result.{err_from_is_err_and}
use Rattle.ring_things.specs.Shelf.{both_of, four_of}
use Rattle.ring_things.proofs.ShelfTexts.{joined, refuses_four}
use Rattle.ring_things.proofs.shelf.ShelfObject.restore.Goals as goal

pub returns-in_err-first-clause-refused : goal.returns-in_err-first-clause-refused
returns-in_err-first-clause-refused g c =
    let first = g.P.Object.sequential.restored c.in-Some.first.now in
    let second = g.Q.Object.sequential.restored c.in-Some.second.now in
    let third = g.R.Object.sequential.restored c.in-Some.third.now in
    let fourth = g.S.Object.sequential.restored c.in-Some.fourth.now in
    let front = c.both_restored-front.ensures first second (joined first _ c.restore.ensures.ok c.restore.ensures.refused)
    (joined second _ c.restore-2.ensures.ok c.restore-2.ensures.refused) in
    let back = c.both_restored-back.ensures third fourth (joined third _ c.restore-3.ensures.ok c.restore-3.ensures.refused)
    (joined fourth _ c.restore-4.ensures.ok c.restore-4.ensures.refused) in
    let refuses = refuses_four (both_of (both_of first second) (both_of third fourth)) _ (c.in_err-first.ensures
    (both_of first second) (both_of third fourth) front back) in
    let p = err_from_is_err_and c.from_residual.result c.from_residual.ensures.1 in
    rw (p.1, p.2, ← c.in-Some.ensures) refuses

pub returns-clause-ok : goal.returns-clause-ok
returns-clause-ok g c =
    let first = g.P.Object.sequential.restored c.in-Some.first.now in
    let second = g.Q.Object.sequential.restored c.in-Some.second.now in
    let third = g.R.Object.sequential.restored c.in-Some.third.now in
    let fourth = g.S.Object.sequential.restored c.in-Some.fourth.now in
    let front = c.both_restored-front.ensures first second (joined first _ c.restore.ensures.ok c.restore.ensures.refused)
    (joined second _ c.restore-2.ensures.ok c.restore-2.ensures.refused) in
    let back = c.both_restored-back.ensures third fourth (joined third _ c.restore-3.ensures.ok c.restore-3.ensures.refused)
    (joined fourth _ c.restore-4.ensures.ok c.restore-4.ensures.refused) in
    rw (← c.in-Some.ensures) (ap four_of (c.in_ok-first.ensures (both_of first second) (both_of third fourth) front back))
