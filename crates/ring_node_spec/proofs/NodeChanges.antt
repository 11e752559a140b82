-- If a node commits nothing, the longest list of calls is unchanged; a stopped node is unchanged by another stop.
use Rattle.std.proofs.Common.{◌≡◌, ℕ, ◌-◌, true, List, [], ◌++◌, length, ap, ◌∙◌, sym, arith, append-nil}
use Rattle.std.proofs.lemmas.List.{drop_all}
use Rattle.ring_core_spec.specs.Payloads.{Call}
use Rattle.ring_core_spec.proofs.States.{stopped_state}
use Rattle.ring_node_spec.specs.Nodes.{Node, is_stopped, node_stopped}
use Rattle.ring_node_spec.specs.Worlds.{calls_past}

-- nothing is newly committed
pub no_calls_past : {A : Type 0} (longest : List (Call A)) (all : ℕ) (calls : List (Call A)) → calls ≡ []
    → longest ++ calls_past (length longest) all calls ≡ longest
no_calls_past longest all calls none =
    ap (λ xs. longest ++ xs) (ap (calls_past (length longest) all) none ∙ drop_all (0 - (all - length longest)) [] (omega arith)) ∙ append-nil longest

-- a stopped node is unchanged by a stop
pub stopped_same : {A : Type 0} (n : Node A) → is_stopped n.core.state ≡ true → node_stopped n ≡ n
stopped_same n h = ap (λ state. record n { core = record n.core { state = state } }) (sym (stopped_state n.core.state h))
