use Rattle.std.proofs.Common.{◌≤◌, ◌+◌, max, ℕ, length, sym, subst, Option, ◌∙◌, arith}
use Rattle.std.proofs.lemmas.Iterator.Adapters.{YieldsList-from_vec}
use Rattle.std.proofs.lemmas.Iterator.Consumers.{YieldsList-turn, YieldsList-end}
use Rattle.ring_explore.specs.declared.explore_totals.ExploreTotals.{ExploreTotals}
use Rattle.ring_failure.specs.Shares.{share_begin}
use Rattle.ring_failure.proofs.Sharing.{found_of, one_longer, shares_end}
use Rattle.ring_explore.specs.Explored.{AreTried, seeds_in}
use Rattle.ring_explore.specs.Tried.{IsTriedIn}
use Rattle.ring_explore.proofs.SeedsInShares.{tried_share}
use Rattle.ring_explore.proofs.exploring.joined_totals.Goals as goal

pub loop-part-preserved : goal.loop-part-preserved
loop-part-preserved g c =
    let IsT = IsTriedIn g.O.Object.sequential g.V.Vocabulary.forms c.args.plan.now in
    let begun = c.into_iter-part-iterator.ensures.into_iter_gives in
    let parts = c.args.parts in
    let turn = YieldsList-turn (YieldsList-from_vec parts.items begun.0 (begun.1 ∙ parts.ok.0)) c.loop-part.yielded
    c.loop-part.part-iterator c.loop-part.yielded_by c.next.result c.next.new.self c.in-Some.part c.in-Some.is c.next.ensures.steps in
    let first = c.args.plan.now.first in
    let many = seeds_in first c.args.plan.now.last in
    let shares = c.args.shares in
    let k = length c.loop-part.yielded in
    let less = turn.0 in
    let all = c.requires.len in
    let len = parts.ok.0 in
    let given = c.requires.each k c.in-Some.part (omega (arith, less, all, len)) in
    let seed_totals = found_of c.in-Some.part _ c.in_ok-seed_totals.seed_totals
    (λ (f : ExploreTotals). AreTried IsT (first + share_begin many shares k) (first + share_begin many shares (k + 1)) f.illegal) turn.1 c.in_ok-seed_totals.was given in
    let more = tried_share IsT first many shares k c.loop-part.all.illegal c.in_ok-seed_totals.seed_totals.illegal c.loop-part.invariant seed_totals in
    let next = one_longer c.loop-part.yielded c.in-Some.part in
    subst (λ (n : ℕ). AreTried IsT first (first + share_begin many shares n) c.add.new.self.illegal) next
    (subst (λ (f : Option ℕ). AreTried IsT first (first + share_begin many shares (k + 1)) f) (sym c.add.ensures.illegal) more)

pub returns-clause-ok : goal.returns-clause-ok
returns-clause-ok g c =
    let IsT = IsTriedIn g.O.Object.sequential g.V.Vocabulary.forms c.args.plan.now in
    let begun = c.into_iter-part-iterator.ensures.into_iter_gives in
    let parts = c.args.parts in
    let ended = YieldsList-end (YieldsList-from_vec parts.items begun.0 (begun.1 ∙ parts.ok.0)) c.loop-part.yielded
    c.loop-part.part-iterator c.loop-part.yielded_by c.next.result c.next.new.self c.in-None.is c.next.ensures.steps in
    let first = c.args.plan.now.first in
    let many = seeds_in first c.args.plan.now.last in
    let whole = ended.1 in
    let all = c.requires.len in
    let len = parts.ok.0 in
    let most : max c.args.shares 1 ≤ length c.loop-part.yielded = omega (arith, whole, all, len) in
    subst (λ (n : ℕ). AreTried IsT first (first + n) c.loop-part.all.illegal)
    (shares_end many c.args.shares (length c.loop-part.yielded) most) c.loop-part.invariant
