-- Each field is a copy, so the copy is the same core and meets its invariant.
use Rattle.std.proofs.Common.{◌≡◌, ◌∙◌, ap, subst}
use Rattle.std.specs.Prelude.{IfOk}
use Rattle.ring_srp_transitions.proofs.Copied.{IsCopiedIf, machine_copied}
use Rattle.ring_srp_transitions.proofs.cloning.RunningCoreClone.clone.Goals as goal

pub invariant_of-result : goal.invariant_of-result
invariant_of-result g c =
    let made = c.in_ok-frames-2 in
    let queue : made.frames.0.items ≡ c.self.inside.queue.items = ap (λ x. x.0.items) made.ensures.first ∙ c.in_ok-frames.ensures.queue in
    let last_sent : made.frames.1 ≡ c.self.inside.last_sent = ap (λ x. x.1) made.ensures.first ∙ c.in_ok-frames.ensures.last_sent in
    let kept : made.parts.0 ≡ c.self.inside.installed_part =
    subst (λ parts. IfOk parts (λ copy. copy.0 ≡ c.self.inside.installed_part)) made.ensures.second c.copied_parts.ensures.kept in
    let recovery : IsCopiedIf c.self.inside.recovery made.parts.1 =
    subst (λ parts. IfOk parts (λ copy. IsCopiedIf c.self.inside.recovery copy.1)) made.ensures.second c.copied_parts.ensures.recovery in
    rw (c.in_ok-gather.ensures.cases, last_sent, queue, kept, c.in_ok-held.ensures.cases, c.in_ok-history.ensures.cases)
    (machine_copied recovery c.self.invariant)

pub returns : goal.returns
returns g c =
    let made = c.in_ok-frames-2 in
    let queue : made.frames.0.items ≡ c.self.inside.queue.items = ap (λ x. x.0.items) made.ensures.first ∙ c.in_ok-frames.ensures.queue in
    let last_sent : made.frames.1 ≡ c.self.inside.last_sent = ap (λ x. x.1) made.ensures.first ∙ c.in_ok-frames.ensures.last_sent in
    record { cases = rw (c.in_ok-gather.ensures.cases, last_sent, queue, c.in_ok-held.ensures.cases, c.in_ok-history.ensures.cases) c.self.view_is }
