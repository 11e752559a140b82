-- Each list is a copy of the original's, element by element.
use Rattle.std.proofs.Common.{◌≡◌, rules}
use Rattle.std.proofs.lemmas.List.Elements.{same_from_all_zip}
use Rattle.ring_log.proofs.exchange.ExchangeClone.clone.Goals as goal

pub returns : goal.returns
returns g c =
    let heads : c.in_ok-clone.field-0.items ≡ c.self.inside.heads.items =
    same_from_all_zip _ _ _ c.in_ok-clone.ensures.cases.0 (λ x y same. same) in
    let bytes : c.in_ok-clone-2.field-0.items ≡ c.self.inside.bytes.items =
    same_from_all_zip _ _ _ c.in_ok-clone-2.ensures.cases.0 (λ x y same. same) in
    let received_calls : c.in_ok-clone-3.field-0.items ≡ c.self.inside.received_calls.items = search (rules, same_from_all_zip) in
    record { cases = rw (heads, bytes, received_calls) c.self.view_is }
