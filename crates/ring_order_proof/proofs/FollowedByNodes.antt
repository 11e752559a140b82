-- A node whose known log agrees with the whole log follows its committed places, and the order, of which they, with repeats
-- removed, are a prefix.
use Rattle.std.proofs.Common.{◌≡◌, List, [], ◌++◌, take, drop, ap, sym, ◌∙◌, subst, arith}
use Rattle.std.proofs.lemmas.List.{take-append-drop}
use Rattle.ring_base.specs.Prefixes.{IsListPrefix}
use Rattle.ring_object.specs.Operations.{Sequential}
use Rattle.ring_payload.specs.declared.call.Call.{Call as OneCall}
use Rattle.ring_session.specs.Deduplicated.{deduplicated_after, deduplicated}
use Rattle.ring_session.specs.DeduplicatedLaws.{deduplicated_after-append}
use Rattle.ring_session.specs.Table.{table_after}
use Rattle.ring_session.proofs.TableLaws.{table_content}
use Rattle.ring_node_spec.specs.Nodes.{Node, node_committed, node_known_log, node_trimmed}
use Rattle.ring_order_proof.specs.Linear.{HasCommittedPlaces, FollowsOrder}
use Rattle.ring_order_proof.proofs.KnownWhole.{Knows, snapshot-known, committed-known}

module _ {O A : Type 0} (object : Sequential O) (n : Node A) (log whole : List (OneCall A)) (knows : Knows object (node_known_log n) log whole) where
  pub follows : HasCommittedPlaces object n whole
  follows = record {
    dropped = (let h = knows.high in let c = knows.committed in omega (arith, h, c));
    snapshot = snapshot-known object (node_known_log n) log whole knows;
    kept = committed-known object (node_known_log n) log whole knows;
  }

  pub follows-order : (order : List (OneCall A)) → IsListPrefix (deduplicated whole) order → FollowsOrder object n whole order
  follows-order order front =
      let t = node_trimmed n in
      let first = take t whole in
      let parts : deduplicated whole ≡ deduplicated first ++ deduplicated_after (deduplicated first) (drop t whole) =
      ap deduplicated (sym (take-append-drop t whole)) ∙ deduplicated_after-append [] first (drop t whole) in
      let next : deduplicated whole ≡ deduplicated first ++ deduplicated_after (deduplicated first) (node_committed n) =
      parts ∙ ap (λ l. deduplicated first ++ deduplicated_after (deduplicated first) l) (sym follows.kept) in
      record {
        stands = subst (λ l. IsListPrefix l order) next front;
        table = table_after object first;
        snapshot = follows.snapshot;
        content = table_content object first;
      }
