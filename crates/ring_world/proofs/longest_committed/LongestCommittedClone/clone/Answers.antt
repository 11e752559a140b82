-- Each segment has the same calls.
use Rattle.std.proofs.Common.{◌≡◌, length, ap, ◌∙◌, sym}
use Rattle.std.proofs.lemmas.List.Elements.{same_from_all_zip}
use Rattle.ring_world.specs.LongestCommitted.{LongestCommittedView, calls_of}
use Rattle.ring_world.proofs.longest_committed.LongestCommittedClone.clone.Goals as goal

pub invariant_of-result : goal.invariant_of-result
invariant_of-result g c =
    let same : c.in_ok-clone.field-0.items ≡ c.self.inside.segments.items =
    same_from_all_zip (λ old new. new ≡ old) c.self.inside.segments.items c.in_ok-clone.field-0.items c.in_ok-clone.ensures.cases.0 (λ old new same. same) in
    c.self.invariant ∙ sym (ap (λ ss. length (calls_of ss)) same)

pub returns : goal.returns
returns g c =
    let same : c.in_ok-clone.field-0.items ≡ c.self.inside.segments.items =
    same_from_all_zip (λ old new. new ≡ old) c.self.inside.segments.items c.in_ok-clone.field-0.items c.in_ok-clone.ensures.cases.0 (λ old new same. same) in
    record { cases = ap calls_of same ∙ ap (λ (l : LongestCommittedView g.row.A.Denot). l.calls) c.self.view_is }
