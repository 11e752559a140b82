use Rattle.std.proofs.Common.{◌≡◌, ℕ, suc, ◌∙◌, List, sym, ap, subst}
use Rattle.std.specs.Io.KnownBytes.{Appends}
use Rattle.std.proofs.KnownBytes.{Appends-trans}
use Rattle.std.proofs.Math.Numerals.{add-one}
use Rattle.ring_base.specs.declared.state.State.{State}
use Rattle.ring_base.specs.declared.ring_id.RingId.{RingId}
use Rattle.ring_world.specs.Rules.{Node, node_known_log, node_length, node_trimmed}
use Rattle.ring_failure.specs.Texts.{line_of}
use Rattle.ring_world.specs.WorldView.{WorldView, world_of}
use Rattle.ring_console.specs.OutputLines.{node_text}
use Rattle.ring_console.specs.Running.{node_line_text, nodes_text}
use Rattle.ring_console.proofs.script_run.ScriptRun.print_node_states.Goals as goal

-- A node's line, by the values of its parts.
shown : {A : Type 0} (node m : Node A) (number i : ℕ) (state : State) (ring : RingId) (committed log trimmed : ℕ)
    → number ≡ suc i → node ≡ m → state ≡ node.core.state → ring ≡ node.core.installed.ring
    → committed ≡ (node_known_log node).committed → log ≡ node_length node → trimmed ≡ node_trimmed node
    → line_of (node_text number state ring committed log trimmed) ≡ node_line_text (suc i) m
shown node m number i state ring committed log trimmed a n b d e f h =
    ap (λ (x : ℕ). line_of (node_text x state ring committed log trimmed)) a
    ∙ (ap (λ (x : State). line_of (node_text (suc i) x ring committed log trimmed)) b
    ∙ (ap (λ (x : RingId). line_of (node_text (suc i) node.core.state x committed log trimmed)) d
    ∙ (ap (λ (x : ℕ). line_of (node_text (suc i) node.core.state node.core.installed.ring x log trimmed)) e
    ∙ (ap (λ (x : ℕ). line_of (node_text (suc i) node.core.state node.core.installed.ring (node_known_log node).committed x trimmed)) f
    ∙ (ap (λ (x : ℕ). line_of (node_text (suc i) node.core.state node.core.installed.ring (node_known_log node).committed (node_length node) x)) h
    ∙ ap (λ (x : Node _). node_line_text (suc i) x) n)))))

pub loop-before-preserved : goal.loop-before-preserved
loop-before-preserved g c =
    let w = world_of g.O.Object.sequential c.args.self.now.world_view in
    let i = c.loop-before.before in
    let number : c.new-proc.result ≡ suc i = c.new-proc.ensures ∙ add-one i in
    let node : c.node-node.result.now ≡ w.nodes (suc i) = c.node-node.ensures
    ∙ (ap (λ (p : WorldView g.row.O-Alloc.Denot). (world_of g.O.Object.sequential p).nodes c.new-proc.result) c.world-world.ensures ∙ ap w.nodes number) in
    let text = shown c.node-node.result.now (w.nodes (suc i)) c.new-proc.result i c.state.result c.ring.result
    c.committed_len.result c.log_len.result c.trimmed.result number node c.state.ensures c.ring.ensures c.committed_len.ensures c.log_len.ensures
    c.trimmed.ensures in
    let Told : List ℕ → Type 0 = λ t. Appends (g.W.Write.contents c.loop-before.out) (g.W.Write.contents c.print_node.new.out) t in
    let told = subst Told text c.in_ok-print_node.ensures.line in
    let all = Appends-trans (g.W.Write.contents c.args.out.now) (g.W.Write.contents c.loop-before.out)
    (g.W.Write.contents c.print_node.new.out) _ _ c.loop-before.invariant told in
    subst (λ (k : ℕ). Appends (g.W.Write.contents c.args.out.now) (g.W.Write.contents c.print_node.new.out)
    (nodes_text g.O.Object.sequential k w)) (sym (add-one i)) all
