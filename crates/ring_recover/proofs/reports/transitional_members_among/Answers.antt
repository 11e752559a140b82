-- The next member is added or skipped.
use Rattle.std.proofs.Common.{◌≡◌, ◌+◌, ◌∷◌, List, drop, subst, sym, ap, ◌∙◌, arith}
use Rattle.std.proofs.lemmas.List.{drop_more, drop_all}
use Rattle.ring_base.specs.Processors.{elements}
use Rattle.ring_commit.specs.Tokens.{CommitEntry}
use Rattle.ring_recover.proofs.TransitionalMembersCollected.{IsGathered, gathered_mate, gathered_other, gathered_all}
use Rattle.ring_recover.proofs.reports.transitional_members_among.Goals.{then-eq, else-eq}
use Rattle.ring_recover.proofs.reports.transitional_members_among.Goals as goal

pub loop-entry-preserved : goal.loop-entry-preserved
loop-entry-preserved c =
    let all = c.args.entries.now in
    let k = c.loop-entry.entry-index in
    let e = c.entry-item.result in
    let next : drop k all ≡ e ∷ drop (k + 1) all = drop_more all k e (omega arith) ∙ ap (λ (x : CommitEntry). x ∷ drop (k + 1) all) (sym c.entry-item.is) in
    let g = subst (λ (rest : List CommitEntry). IsGathered c.args.old.now (elements c.args.members) all c.loop-entry.transitional_members
    (elements c.loop-entry.left) rest) next c.loop-entry.invariant.2 in
    elim c.if-eq.branch [
      | then-eq w ↦ rw w.transitional_members-is (
        tt,
        tt,
        gathered_mate c.args.old.now (elements c.args.members) all c.loop-entry.transitional_members c.loop-entry.left c.in-Some.member c.next.new.self e (drop
            (k + 1) all) c.in-Some.ensures.steps
            w.insert.new.self w.insert.ensures.value w.insert.ensures.members (sym c.eq.ensures ∙ w.if-eq.true) g,
      )
      | else-eq w ↦ rw w.transitional_members-is (
        tt,
        tt,
        gathered_other c.args.old.now (elements c.args.members) all c.loop-entry.transitional_members c.loop-entry.left c.in-Some.member c.next.new.self e (drop
            (k + 1) all) c.in-Some.ensures.steps
            (sym c.eq.ensures ∙ w.if-eq.false) g,
      )
    ]

pub returns : goal.returns
returns c =
    let all = c.args.entries.now in
    let k = c.loop-entry.entry-index in
    gathered_all c.args.old.now (elements c.args.members) all c.loop-entry.transitional_members (elements c.loop-entry.left)
    (subst (λ (rest : List CommitEntry). IsGathered c.args.old.now (elements c.args.members) all c.loop-entry.transitional_members
    (elements c.loop-entry.left) rest) (drop_all k all (omega arith)) c.loop-entry.invariant.2)
