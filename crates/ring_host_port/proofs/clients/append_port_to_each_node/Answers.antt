-- The host has the node, and a seat is left for each port.
use Rattle.std.proofs.Common.{rules, ◌≡◌, ◌∷◌, ◌++◌, [], ℕ, ◌<◌, arith, ◌∙◌, ap}
use Rattle.ring_client.specs.Asking.{new_asked}
use Rattle.ring_client.specs.declared.last_request.Asked.{Asked}
use Rattle.ring_host_port.specs.Clients.{node_after}
use Rattle.ring_host_port.proofs.Ports.{node_after-le, AreAsWanted-push}
use Rattle.ring_host_port.proofs.Taken.{one_left}
use Rattle.ring_host_port.proofs.clients.append_port_to_each_node.Goals as goal

pub returns-in_err-port-clause-refused : goal.returns-in_err-port-clause-refused
returns-in_err-port-clause-refused g c =
    let l = c.loop-passed in
    let nodes : c.len-nodes.result ≡ c.args.host.now.gauge.words = search rules in
    let words = c.requires.seats.words in
    let few = c.requires.seats.few in
    let some : 0 < c.len-nodes.result = omega (arith, c.loop-passed-test.true) in
    let within = node_after-le c.len-nodes.result c.args.first l.passed some in
    let node = c.node_tried_after.ensures in
    let none = c.in_err-port.ensures.err (omega (arith, node)) (omega (arith, node, within, nodes, words, few)) (omega (arith, node, within, nodes)) in
    absurd (one_left l.seats.items l.passed c.args.host.now.gauge.words l.invariant.left (omega (arith, c.loop-passed-test.true, nodes)) none)

pub loop-passed-preserved : goal.loop-passed-preserved
loop-passed-preserved g c =
    let l = c.loop-passed in
    let wanted : ℕ → ℕ = node_after c.args.host.now.gauge.words c.args.first in
    let nodes : c.len-nodes.result ≡ c.args.host.now.gauge.words = search rules in
    let put : c.push.new.self.items ≡ l.ports.items ++ c.in_ok-port.port ∷ [] = search rules in
    let to : c.in_ok-port.port.node ≡ wanted l.passed = c.in_ok-port.ensures.port.0 ∙ c.node_tried_after.ensures ∙ ap (λ (n : ℕ). node_after n c.args.first l.passed) nodes in
    let none : ℕ → Asked = λ k. new_asked in
    let taken = c.in_ok-port.ensures.taken in
    let left = l.invariant.left in
    record {
      at = c.to_node.ensures.seats;
      left = omega (arith, taken, left);
      long = search rules;
      order = AreAsWanted-push (λ port. port.node) wanted l.ports.items put l.invariant.long to l.invariant.order;
      fresh = AreAsWanted-push (λ port. port.asked) none l.ports.items put l.invariant.long c.in_ok-port.ensures.port.1 l.invariant.fresh;
    }
