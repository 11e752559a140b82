-- The calls are copied one by one, so the copy keeps the log's bounds.
use Rattle.std.proofs.Common.{◌≡◌, rules}
use Rattle.std.proofs.lemmas.List.Elements.{same_from_all_zip}
use Rattle.ring_log.proofs.log.LogClone.clone.Goals as goal

pub invariant_of-result : goal.invariant_of-result
invariant_of-result g c =
    let calls : c.in_ok-clone.field-0.items ≡ c.self.inside.calls.items = search (rules, same_from_all_zip) in
    rw calls c.self.invariant

pub returns : goal.returns
returns g c =
    let calls : c.in_ok-clone.field-0.items ≡ c.self.inside.calls.items = search (rules, same_from_all_zip) in
    record { cases = rw calls c.self.view_is }
