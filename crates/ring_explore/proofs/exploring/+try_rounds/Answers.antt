-- One round, and those after it.
use Rattle.std.proofs.Common.{◌≡◌, ◌≤◌, ◌<◌, ◌+◌, ℕ, Option, None, sym, subst, ◌∙◌, arith}
use Rattle.ring_failure.proofs.Sharing.{round_grows, round_within}
use Rattle.ring_explore.specs.Explored.{AreTried, seeds_in}
use Rattle.ring_explore.specs.Tried.{IsTriedIn}
use Rattle.ring_explore.proofs.TriedScripts.{same_scripts}
use Rattle.ring_explore.proofs.SeedsInShares.{tried_none, tried_more, tried_append, tried_part}
use Rattle.ring_explore.proofs.exploring.+try_rounds.Goals as goal

pub returns-then-from-many-clause-ok : goal.returns-then-from-many-clause-ok
returns-then-from-many-clause-ok g t c =
    let IsT = IsTriedIn g.O.Object.sequential g.V.Vocabulary.forms c.args.plan.now in
    let first = c.args.plan.now.first in
    let many = seeds_in first c.args.plan.now.last in
    let is_many = c.seed_count-many.ensures in
    let past = c.if-from-many.true in
    λ order.
    let ends : first + c.args.from ≡ first + many = omega (arith, order, is_many, past) in
    subst (λ (f : Option ℕ). AreTried IsT (first + c.args.from) (first + many) f) (sym c.new.ensures.illegal)
    (subst (λ (n : ℕ). AreTried IsT (first + c.args.from) n None) ends (tried_none IsT (first + c.args.from)))

pub returns-then-is_some-clause-ok : goal.returns-then-is_some-clause-ok
returns-then-is_some-clause-ok g t c =
    let IsT = IsTriedIn g.O.Object.sequential g.V.Vocabulary.forms c.args.plan.now in
    let first = c.args.plan.now.first in
    let many = seeds_in first c.args.plan.now.last in
    let from = c.args.from in
    let upto = c.round_end-upto.result in
    let is_many = c.seed_count-many.ensures in
    let is_end = c.round_end-upto.ensures in
    let grows = round_grows from c.next_round_items.result c.seed_count-many.result (omega (arith, c.if-from-many.false)) in
    let within = round_within from c.next_round_items.result c.seed_count-many.result in
    let less : from < upto = omega (arith, is_end, grows) in
    let most : upto ≤ many = omega (arith, is_end, within, is_many) in
    let round = c.sub_plan-round.result in
    let seed_totals = c.in_ok-seed_totals.seed_totals.illegal in
    let tried = same_scripts g.O.Object.sequential g.V.Vocabulary.forms round c.args.plan.now round.first (round.first + seeds_in round.first round.last) seed_totals
    c.sub_plan-round.ensures.votes c.sub_plan-round.ensures.lines c.in_ok-seed_totals.ensures.ok in
    λ order. tried_more IsT (first + from) (first + upto) (first + many) seed_totals (sym c.is_some.ensures ∙ c.if-is_some.true) (omega (arith, most))
    (tried_part IsT first from upto round.first round.last seed_totals less (omega (arith, most)) c.sub_plan-round.ensures.first c.sub_plan-round.ensures.last
    tried)

pub returns-clause-ok : goal.returns-clause-ok
returns-clause-ok g t c =
    let IsT = IsTriedIn g.O.Object.sequential g.V.Vocabulary.forms c.args.plan.now in
    let first = c.args.plan.now.first in
    let many = seeds_in first c.args.plan.now.last in
    let from = c.args.from in
    let upto = c.round_end-upto.result in
    let is_many = c.seed_count-many.ensures in
    let is_end = c.round_end-upto.ensures in
    let grows = round_grows from c.next_round_items.result c.seed_count-many.result (omega (arith, c.if-from-many.false)) in
    let within = round_within from c.next_round_items.result c.seed_count-many.result in
    let less : from < upto = omega (arith, is_end, grows) in
    let most : upto ≤ many = omega (arith, is_end, within, is_many) in
    let round = c.sub_plan-round.result in
    let seed_totals = c.in_ok-seed_totals.seed_totals.illegal in
    let tried = same_scripts g.O.Object.sequential g.V.Vocabulary.forms round c.args.plan.now round.first (round.first + seeds_in round.first round.last) seed_totals
    c.sub_plan-round.ensures.votes c.sub_plan-round.ensures.lines c.in_ok-seed_totals.ensures.ok in
    let others = c.in_ok-others.others.illegal in
    λ order. subst (λ (f : Option ℕ). AreTried IsT (first + from) (first + many) f) (sym c.add.ensures.illegal)
    (tried_append IsT (first + from) (first + upto) (first + many) seed_totals others (omega (arith, less)) (omega (arith, most))
    (tried_part IsT first from upto round.first round.last seed_totals less (omega (arith, most)) c.sub_plan-round.ensures.first c.sub_plan-round.ensures.last
    tried) (c.in_ok-others.ensures.ok most))
