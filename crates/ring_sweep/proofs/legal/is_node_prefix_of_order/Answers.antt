use Rattle.std.proofs.Common.{◌↔◌, IsTrue, List, subst, ◌∙◌}
use Rattle.std.specs.Prelude.{IfOk}
use Rattle.ring_base.specs.Prefixes.{IsListPrefix}
use Rattle.ring_payload.specs.declared.call.Call.{Call}
use Rattle.ring_session.specs.Deduplicated.{deduplicated}
use Rattle.ring_sweep.proofs.legal.is_node_prefix_of_order.Goals as goal

pub returns-in-Ok-clause-ok : goal.returns-in-Ok-clause-ok
returns-in-Ok-clause-ok g c =
    subst (λ (calls : List (Call g.row.O-Alloc.Denot)). IfOk c.is_prefix.result (λ front. IsTrue front ↔ IsListPrefix (deduplicated calls) c.args.order.now))
    (c.as_slice.ensures.value ∙ c.in-Ok.ensures.ok) c.is_prefix.ensures.ok
