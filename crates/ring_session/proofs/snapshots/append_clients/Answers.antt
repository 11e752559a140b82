use Rattle.std.proofs.Common.{◌≡◌, ap, ◌∙◌, take, rules, arith}
use Rattle.std.proofs.lemmas.Grind.{common_steps}
use Rattle.ring_session.proofs.Parts.{stays-then, stays-more, stays-on, stays-whole, clients-on}
use Rattle.ring_session.proofs.snapshots.append_clients.Goals as goal

pub returns-in_err-append_last_call-clause-front : goal.returns-in_err-append_last_call-clause-front
returns-in_err-append_last_call-clause-front g c =
    let old = c.args.out.now in
    let l = c.loop-client in
    let mid = c.append_number-in-loop-client.new.out in
    let first = stays-more old.items l.out.items _ old.len old.ok.0 l.invariant.front in
    stays-then old.items mid.items c.append_last_call.new.out.items old.len mid.len old.ok.0 mid.ok.0
    (rw c.in_ok-append_number-2.ensures.ok first) c.in_err-append_last_call.ensures.front

pub loop-client-init : goal.loop-client-init
loop-client-init g c =
    let old = c.args.out.now in
    record {
      whole = grind (arith, common_steps);
      front = stays-on old.items old.items c.append_number.new.out.items _ old.len old.ok.0 (stays-whole old.items old.len old.ok.0)
          c.in_ok-append_number.ensures.ok;
    }

pub loop-client-preserved : goal.loop-client-preserved
loop-client-preserved g c =
    let old = c.args.out.now in
    let l = c.loop-client in
    let mid = c.append_number-in-loop-client.new.out in
    record {
      whole = clients-on l.out.items mid.items c.append_last_call.new.out.items (c.in-Some.client.now, c.in-Some.last.now) l.client-iterator
          c.next.new.self _ c.in-Some.ensures.steps (rw c.from.ensures at c.in_ok-append_number-2.ensures.ok) c.in_ok-append_last_call.ensures.ok
          l.invariant.whole;
      front = stays-on old.items mid.items c.append_last_call.new.out.items _ old.len old.ok.0
          (stays-on old.items l.out.items mid.items _ old.len old.ok.0 l.invariant.front c.in_ok-append_number-2.ensures.ok)
          c.in_ok-append_last_call.ensures.ok;
    }

pub returns-in_err-append_number-clause-front : goal.returns-in_err-append_number-clause-front
returns-in_err-append_number-clause-front g c =
    let old = c.args.out.now in
    let same : c.append_number.new.out.items ≡ old.items = search rules in
    ap (take old.len) same ∙ stays-whole old.items old.len old.ok.0

pub returns-in_err-append_number-2-clause-front : goal.returns-in_err-append_number-2-clause-front
returns-in_err-append_number-2-clause-front g c =
    let old = c.args.out.now in
    let same : c.append_number-in-loop-client.new.out.items ≡ c.loop-client.out.items = search rules in
    ap (take old.len) same ∙ c.loop-client.invariant.front
