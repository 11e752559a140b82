-- One more variant; the base run is not past the event of the next.
use Rattle.std.proofs.Common.{◌≡◌, ◌+◌, ◌-◌, ◌*◌, ◌/◌, ◌<◌, ◌≤◌, ℕ, None, ap, subst, sym, ◌∙◌, arith}
use Rattle.ring_failure.specs.Shares.{share_begin}
use Rattle.ring_failure.proofs.Sharing.{share_grows, next_begin}
use Rattle.ring_sweep.specs.declared.injection.Injection.{Injection}
use Rattle.ring_sweep.specs.ScriptPositions.{left_of}
use Rattle.ring_sweep.specs.Variants.{injection_at, first_illegal, IsTried, AreTriedIn}
use Rattle.ring_sweep.proofs.Gapping.{opened, max_before}
use Rattle.ring_sweep.proofs.Trying.{tried_none, tried_more, before_next}
use Rattle.ring_sweep.proofs.variant_range.try_from_base.Goals as goal

pub loop-place-init : goal.loop-place-init
loop-place-init g c =
    let script = c.args.script.now in
    let base_run = c.args.base_run.now in
    let e = c.requires in
    let none = e.counted_run.1 in
    let many = c.variant_count-many.ensures in
    let begin : c.share_begin-begin.result ≡ share_begin (c.args.part.upto - c.args.part.from) c.args.shares c.args.share =
    c.share_begin-begin.ensures ∙ ap (λ (n : ℕ). share_begin n c.args.shares c.args.share) many in
    let at = c.args.part.from + share_begin (c.args.part.upto - c.args.part.from) c.args.shares c.args.share in
    record {
      tried = subst (λ (n : ℕ). AreTriedIn g.O.Object.sequential script.nodes script.lines.items at (c.args.part.from + n) None) (sym begin)
          (tried_none g.O.Object.sequential script.nodes script.lines.items at);
      come = opened g.O.Object.sequential script.nodes script.lines.items base_run.lines base_run.turns base_run.counted_run.events_done base_run.counted_run.run e.place.0 e.place.1
          e.counted_run.1 e.counted_run.0;
      most = omega (arith, none);
    }

pub go_to-requires-clause-most : goal.go_to-requires-clause-most
go_to-requires-clause-most g c =
    let at = c.args.part.from + c.loop-place.place in
    let is = c.of_variant-injection.ensures ∙ ap (λ (n : ℕ). injection_at n at) c.count.ensures.value in
    subst (λ (n : ℕ). c.loop-place.base_run.counted_run.events_done ≤ n) (sym (ap (λ (u : Injection). u.before) is)) c.loop-place.invariant.most

pub loop-place-preserved : goal.loop-place-preserved
loop-place-preserved g c =
    let nodes = c.args.script.now.nodes in
    let lines = c.args.script.now.lines.items in
    let part = c.args.part in
    let at = part.from + c.loop-place.place in
    let last = c.in_ok-is_legal.is_legal in
    let injection : c.of_variant-injection.result ≡ injection_at nodes.count at =
    c.of_variant-injection.ensures ∙ ap (λ (n : ℕ). injection_at n at) c.count.ensures.value in
    let tried = subst (λ (u : Injection). IsTried g.O.Object.sequential nodes lines u last) injection c.in_ok-is_legal.ensures.ok in
    let first : c.keep_first.new.first ≡ first_illegal c.loop-place.illegal last (injection_at nodes.count at) =
    c.keep_first.ensures ∙ ap (λ (n : ℕ). first_illegal c.loop-place.illegal last (injection_at n at)) c.count-in-loop-place.ensures.value in
    let next : at + 1 ≡ part.from + (c.loop-place.place + 1) = omega arith in
    let begin = part.from + share_begin (part.upto - part.from) c.args.shares c.args.share in
    let base_run = c.go_to.new.self in
    let least = c.count.ensures.in_range.0 in
    let count = c.count.ensures.value in
    let some : 0 < 2 * nodes.count = omega (arith, least, count) in
    let now = max_before g.O.Object.sequential (left_of lines base_run.lines base_run.turns) base_run.counted_run.events_done c.of_variant-injection.result.before base_run.counted_run.run
    c.in_ok-go_to.ensures.due in
    record {
      tried = subst (λ (n : ℕ). AreTriedIn g.O.Object.sequential nodes lines begin n c.keep_first.new.first) next
          (tried_more g.O.Object.sequential nodes lines begin at c.loop-place.illegal last c.keep_first.new.first c.loop-place.invariant.tried tried first);
      come = c.in_ok-go_to.ensures.come;
      most = subst (λ (n : ℕ). base_run.counted_run.events_done ≤ n / (2 * nodes.count)) next
          (before_next g.O.Object.sequential nodes lines at base_run.counted_run.events_done (2 * nodes.count) some
          (subst (λ (n : ℕ). base_run.counted_run.events_done ≤ n) (ap (λ (u : Injection). u.before) injection) now));
    }

pub returns-clause-ok : goal.returns-clause-ok
returns-clause-ok g c =
    let nodes = c.args.script.now.nodes in
    let lines = c.args.script.now.lines.items in
    let part = c.args.part in
    let many = part.upto - part.from in
    let shares = c.args.shares in
    let share = c.args.share in
    let count = c.variant_count-many.ensures in
    let begin : c.share_begin-begin.result ≡ share_begin many shares share =
    c.share_begin-begin.ensures ∙ ap (λ (n : ℕ). share_begin n shares share) count in
    let end : c.share_begin-end.result ≡ share_begin many shares (share + 1) =
    c.share_begin-end.ensures ∙ (ap (λ (n : ℕ). share_begin n shares c.saturating_add.result) count
    ∙ next_begin many shares share c.saturating_add.result (omega arith) c.saturating_add.ensures) in
    let grows = share_grows many shares share in
    let most = c.loop-place.auto.place-end (omega (arith, begin, end, grows)) in
    let over = c.loop-place-test.false in
    let all : c.loop-place.place ≡ share_begin many shares (share + 1) = omega (arith, end, most, over) in
    subst (λ (n : ℕ). AreTriedIn g.O.Object.sequential nodes lines (part.from + share_begin many shares share) (part.from + n) c.loop-place.illegal)
    all c.loop-place.invariant.tried
