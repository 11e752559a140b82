use Rattle.std.proofs.Common.{◌≡◌, ◌≤◌, ◌+◌, ◌-◌, max, ℕ, length, sym, subst, Option, ◌∙◌, arith}
use Rattle.std.proofs.lemmas.Iterator.Adapters.{YieldsList-from_vec}
use Rattle.std.proofs.lemmas.Iterator.Consumers.{YieldsList-turn, YieldsList-end}
use Rattle.ring_failure.specs.Shares.{share_begin}
use Rattle.ring_failure.proofs.Sharing.{found_of, one_longer, shares_end}
use Rattle.ring_sweep.specs.declared.injection.Injection.{Injection}
use Rattle.ring_sweep.specs.Variants.{AreTriedIn}
use Rattle.ring_sweep.proofs.Trying.{tried_share}
use Rattle.ring_sweep.proofs.rounds.first_illegal_of_shares.Goals as goal

pub loop-one-preserved : goal.loop-one-preserved
loop-one-preserved g c =
    let begun = c.into_iter-one-iterator.ensures.into_iter_gives in
    let parts = c.args.parts in
    let turn = YieldsList-turn (YieldsList-from_vec parts.items begun.0 (begun.1 ∙ parts.ok.0)) c.loop-one.yielded
    c.loop-one.one-iterator c.loop-one.yielded_by c.next.result c.next.new.self c.in-Some.one c.in-Some.is c.next.ensures.steps in
    let nodes = c.args.script.now.nodes in
    let lines = c.args.script.now.lines.items in
    let from = c.args.part.from in
    let many = c.args.part.upto - c.args.part.from in
    let shares = c.args.shares in
    let k = length c.loop-one.yielded in
    let less = turn.0 in
    let all = c.requires.len in
    let len = parts.ok.0 in
    let given = c.requires.each k c.in-Some.one (omega (arith, less, all, len)) in
    let found = found_of c.in-Some.one _ c.in_ok-found.found
    (λ (f : Option Injection). AreTriedIn g.O.Object.sequential nodes lines (from + share_begin many shares k) (from + share_begin many shares (k + 1)) f)
    turn.1 c.in_ok-found.was given in
    let more = tried_share g.O.Object.sequential nodes lines from many shares k c.loop-one.illegal c.in_ok-found.found c.loop-one.invariant found in
    let next = one_longer c.loop-one.yielded c.in-Some.one in
    subst (λ (n : ℕ). AreTriedIn g.O.Object.sequential nodes lines from (from + share_begin many shares n) c.or-illegal.result) next
    (subst (λ (f : Option Injection). AreTriedIn g.O.Object.sequential nodes lines from (from + share_begin many shares (k + 1)) f) (sym c.or-illegal.ensures) more)

pub returns-clause-ok : goal.returns-clause-ok
returns-clause-ok g c =
    let begun = c.into_iter-one-iterator.ensures.into_iter_gives in
    let parts = c.args.parts in
    let ended = YieldsList-end (YieldsList-from_vec parts.items begun.0 (begun.1 ∙ parts.ok.0)) c.loop-one.yielded
    c.loop-one.one-iterator c.loop-one.yielded_by c.next.result c.next.new.self c.in-None.is c.next.ensures.steps in
    let nodes = c.args.script.now.nodes in
    let lines = c.args.script.now.lines.items in
    let from = c.args.part.from in
    let many = c.args.part.upto - c.args.part.from in
    let whole = ended.1 in
    let all = c.requires.len in
    let len = parts.ok.0 in
    let most : max c.args.shares 1 ≤ length c.loop-one.yielded = omega (arith, whole, all, len) in
    λ order.
    let ends : from + share_begin many c.args.shares (length c.loop-one.yielded) ≡ c.args.part.upto =
    let last = shares_end many c.args.shares (length c.loop-one.yielded) most in omega (arith, last, order) in
    subst (λ (n : ℕ). AreTriedIn g.O.Object.sequential nodes lines from n c.loop-one.illegal) ends c.loop-one.invariant
