use Rattle.std.proofs.Common.{◌≡◌, ◌+◌, ℕ, Option, sym, ap, subst, ◌∙◌, arith}
use Rattle.ring_failure.specs.Shares.{share_begin}
use Rattle.ring_failure.proofs.Sharing.{share_grows, next_begin}
use Rattle.ring_explore.specs.Explored.{AreTried, seeds_in}
use Rattle.ring_explore.specs.Tried.{IsTriedIn}
use Rattle.ring_explore.proofs.SeedsInShares.{tried_next, tried_more}
use Rattle.ring_explore.proofs.exploring.try_share.Goals as goal

pub returns-then-is_some-clause-ok : goal.returns-then-is_some-clause-ok
returns-then-is_some-clause-ok g c =
    let IsT = IsTriedIn g.O.Object.sequential g.V.Vocabulary.forms c.args.plan.now in
    let plan = c.args.plan.now in
    let first = plan.first in
    let many = seeds_in first plan.last in
    let shares = c.args.shares in
    let share = c.args.share in
    let count = c.seed_count-many.ensures in
    let begin : c.share_begin-begin.result ≡ share_begin many shares share =
    c.share_begin-begin.ensures ∙ ap (λ (n : ℕ). share_begin n shares share) count in
    let end : c.share_begin-end.result ≡ share_begin many shares (share + 1) =
    c.share_begin-end.ensures ∙ (ap (λ (n : ℕ). share_begin n shares c.saturating_add.result) count
    ∙ next_begin many shares share c.saturating_add.result (omega arith) c.saturating_add.ensures) in
    let place = c.loop-place.place in
    let passed = c.loop-place.auto.place in
    let behind = tried_next IsT first (share_begin many shares share) place c.loop-place.seed_totals.illegal c.in_ok-one.one.illegal
    (omega (arith, begin, passed)) c.loop-place.invariant c.in_ok-one.ensures.ok in
    let added = subst (λ (f : Option ℕ). AreTried IsT (first + share_begin many shares share) (first + (place + 1)) f) (sym c.add.ensures.illegal) behind in
    let less = c.loop-place-test.true in
    tried_more IsT (first + share_begin many shares share) (first + (place + 1)) (first + share_begin many shares (share + 1))
    c.add.new.self.illegal (sym c.is_some.ensures ∙ c.if-is_some.true) (omega (arith, end, less)) added

pub loop-place-preserved : goal.loop-place-preserved
loop-place-preserved g c =
    let IsT = IsTriedIn g.O.Object.sequential g.V.Vocabulary.forms c.args.plan.now in
    let plan = c.args.plan.now in
    let first = plan.first in
    let many = seeds_in first plan.last in
    let shares = c.args.shares in
    let share = c.args.share in
    let begin : c.share_begin-begin.result ≡ share_begin many shares share =
    c.share_begin-begin.ensures ∙ ap (λ (n : ℕ). share_begin n shares share) c.seed_count-many.ensures in
    let place = c.loop-place.place in
    let passed = c.loop-place.auto.place in
    let behind = tried_next IsT first (share_begin many shares share) place c.loop-place.seed_totals.illegal c.in_ok-one.one.illegal
    (omega (arith, begin, passed)) c.loop-place.invariant c.in_ok-one.ensures.ok in
    let added = subst (λ (f : Option ℕ). AreTried IsT (first + share_begin many shares share) (first + (place + 1)) f) (sym c.add.ensures.illegal) behind in
    added

pub returns-clause-ok : goal.returns-clause-ok
returns-clause-ok g c =
    let IsT = IsTriedIn g.O.Object.sequential g.V.Vocabulary.forms c.args.plan.now in
    let plan = c.args.plan.now in
    let first = plan.first in
    let many = seeds_in first plan.last in
    let shares = c.args.shares in
    let share = c.args.share in
    let count = c.seed_count-many.ensures in
    let begin : c.share_begin-begin.result ≡ share_begin many shares share =
    c.share_begin-begin.ensures ∙ ap (λ (n : ℕ). share_begin n shares share) count in
    let end : c.share_begin-end.result ≡ share_begin many shares (share + 1) =
    c.share_begin-end.ensures ∙ (ap (λ (n : ℕ). share_begin n shares c.saturating_add.result) count
    ∙ next_begin many shares share c.saturating_add.result (omega arith) c.saturating_add.ensures) in
    let grows = share_grows many shares share in
    let passed = c.loop-place.auto.place in
    let most = c.loop-place.auto.place-end (omega (arith, begin, end, grows)) in
    let over = c.loop-place-test.false in
    let all : c.loop-place.place ≡ share_begin many shares (share + 1) = omega (arith, end, most, over) in
    subst (λ (n : ℕ). AreTried IsT (first + share_begin many shares share) (first + n) c.loop-place.seed_totals.illegal) all c.loop-place.invariant
