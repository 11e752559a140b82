-- The new calls are one more segment.
use Rattle.std.proofs.Common.{◌≡◌, ◌-◌, ◌++◌, length, drop, ap, ◌∙◌, subst, arith, length-append, length-drop}
use Rattle.ring_node_spec.specs.Worlds.{calls_past}
use Rattle.ring_world.specs.LongestCommitted.{LongestCommittedView, calls_of}
use Rattle.ring_world.proofs.Segments.{calls_of-push, new-calls}
use Rattle.ring_world.proofs.longest_committed.LongestCommitted.append_segment.Goals as goal

pub invariant_of-self : goal.invariant_of-self
invariant_of-self g c =
    let calls = c.args.calls.items in
    let old = c.self.inside.segments.items in
    let from = c.saturating_sub-from.result in
    let all = ap (λ ss. length (calls_of ss)) c.push_reserved.ensures.items ∙ ap length (calls_of-push old (drop from calls)) in
    let sum = length-append (calls_of old) (drop from calls) in
    let part = length-drop from calls in
    omega (arith, all, sum, part, c.self.invariant, c.len-many.ensures, c.args.calls.ok.0, c.if-from-many.true)

pub returns-then-from-many : goal.returns-then-from-many
returns-then-from-many g c =
    let calls = c.args.calls.items in
    let old = c.self.inside.segments.items in
    let from = c.saturating_sub-from.result in
    let many : c.len-many.result ≡ length calls = omega (arith, c.len-many.ensures, c.args.calls.ok.0) in
    let from_is : from ≡ c.len-many.result - (c.args.committed - c.self.inside.len) =
    c.saturating_sub-from.ensures ∙ ap (λ n. c.len-many.result - n) c.saturating_sub.ensures in
    let added = new-calls (calls_of old) calls c.args.committed c.self.inside.len c.len-many.result from c.self.invariant many from_is in
    ap calls_of c.push_reserved.ensures.items ∙ calls_of-push old (drop from calls)
    ∙ subst (λ (s : LongestCommittedView g.row.A.Denot). calls_of old ++ drop from calls ≡ s.calls ++ calls_past (length s.calls) c.args.committed calls) c.self.view_is
    added
