use Rattle.std.proofs.Common.{ℕ, List, sym, ap, ◌∙◌}
use Rattle.std.specs.Option.{option_map}
use Rattle.ring_session.specs.Table.{LastCall}
use Rattle.ring_session.specs.Snapshots.{clients_at}
use Rattle.ring_session.proofs.Clients.{clients-none, clients-end, behind-more}
use Rattle.ring_session.proofs.Parts.{mapped_none}
use Rattle.ring_session.proofs.snapshots.bytes_after_clients.Goals as goal

pub returns-in_default : goal.returns-in_default
returns-in_default c =
    let l = c.loop-i in
    let none = clients-none c.args.count l._i l.low l.rest.now c.loop-i-test.true (mapped_none _ c.split_off_client.result _ c.split_off_client.ensures c.in_default.is) in
    sym (l.invariant ∙ ap (option_map (λ (x : List (ℕ × LastCall) × List ℕ). x.1)) none)

pub loop-i-preserved : goal.loop-i-preserved
loop-i-preserved c =
    let l = c.loop-i in
    behind-more (option_map (λ (x : List (ℕ × LastCall) × List ℕ). x.1) (clients_at c.args.count 0 c.args.bytes.now)) c.args.count l._i l.low
    c.next_client_low-low.result l.rest.now c.in-Some.rest_after_client.now c.in-Some.client_entry l.invariant c.loop-i-test.true (sym c.in-Some.ensures) c.next_client_low-low.ensures

pub returns : goal.returns
returns c =
    let l = c.loop-i in
    let end = clients-end c.args.count l._i l.low l.rest.now c.loop-i-test.false in
    sym (l.invariant ∙ ap (option_map (λ (x : List (ℕ × LastCall) × List ℕ). x.1)) end)
