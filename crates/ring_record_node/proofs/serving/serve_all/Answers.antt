-- The node of the processor, from its opening, takes the records; or it can't begin.
use Rattle.std.proofs.Common.{inl, inr}
use Rattle.ring_base.proofs.Results.{on-ok}
use Rattle.ring_record_node.proofs.Served.{cut_at_once, cut_after}
use Rattle.ring_record_node.proofs.serving.serve_all.Goals as goal

pub returns-in_err-proc-clause-cut : goal.returns-in_err-proc-clause-cut
returns-in_err-proc-clause-cut g c =
    cut_at_once g.O.Object.sequential _ c.from_residual.result _ _ _ c.in_err-proc.field-0.0 _ _ c.from_residual.ensures.1
    (inr (c.in_err-proc.ensures.refused, c.in_err-proc.ensures.ok))

pub returns-in_err-bytes-clause-cut : goal.returns-in_err-bytes-clause-cut
returns-in_err-bytes-clause-cut g c =
    cut_at_once g.O.Object.sequential _ c.from_residual-in_err-bytes.result _ _ _ c.in_err-bytes.field-0.0 _ _ c.from_residual-in_err-bytes.ensures.1
    (inl (c.in_err-bytes.ensures.refused, c.in_ok-proc.ensures.ok.0))

pub returns-in_err-node-clause-cut : goal.returns-in_err-node-clause-cut
returns-in_err-node-clause-cut g c =
    cut_at_once g.O.Object.sequential _ c.from_residual-in_err-node.result _ _ _ c.in_err-node.field-0.0 _ _
    c.from_residual-in_err-node.ensures.1 c.in_err-node.ensures.refused

pub returns-clause-served : goal.returns-clause-served
returns-clause-served g c =
    on-ok c.serve_records-served.result _ _ (λ served. (c.in_ok-node.ensures.member, c.serve_records-served.new.node, served.0, served.1))
    (rw c.in_ok-node.ensures.ok at c.serve_records-served.ensures.served)

pub returns-clause-cut : goal.returns-clause-cut
returns-clause-cut g c =
    cut_after g.O.Object.sequential _ c.serve_records-served.result _ _ _ _ _ _ _ c.in_ok-node.ensures.member
    (rw c.in_ok-node.ensures.ok at c.serve_records-served.ensures.cut)
