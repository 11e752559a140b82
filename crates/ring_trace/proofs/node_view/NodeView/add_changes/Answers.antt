use Rattle.std.proofs.Common.{◌≡◌, ◌∙◌, ◌==◌, not, List, ◌++◌, Result, Ok, Err, OnErr, refl, sym, ap, append_assoc}
use Rattle.std.specs.Prelude.{is_some}
use Rattle.ring_base.specs.Prefixes.{IsListPrefix}
use Rattle.ring_base.proofs.Results.{on-err}
use Rattle.ring_trace_words.specs.declared.node_change.Change.TheVariants as change
use Rattle.ring_trace.specs.NodeViews.{is_new_ring, is_new_state, ring_change, restored_change, change_if}
use Rattle.ring_trace.proofs.node_view.NodeView.add_changes.Goals as goal

-- A prefix of the changes is added.
in_part : {X : Type 0} (old done rest all new : List X) → done ++ rest ≡ all → new ≡ old ++ done → IsListPrefix old new × IsListPrefix new (old ++ all)
in_part old done rest all new whole is =
    ((done, sym is), (rest, ap (λ xs. xs ++ rest) is ∙ append_assoc old done rest ∙ ap (λ xs. old ++ xs) whole))

-- A fact that a fact at `Err` implies.
from_err : {X E : Type 0} (r : Result X E) (P Q : Type 0) → (P → Q) → OnErr r P → OnErr r Q
from_err (Ok x) P Q f h = h
from_err (Err e) P Q f h = f h

pub returns-in_err-push_change_if-2-clause-err : goal.returns-in_err-push_change_if-2-clause-err
returns-in_err-push_change_if-2-clause-err g c =
    let ring = change_if (is_new_ring c.args.before.now c.args.self.now) (ring_change c.args.nodes c.args.self.now) in
    let state = change_if (is_new_state c.args.before.now c.args.self.now) (change.State c.args.self.now.state) in
    let committed = change_if (not (c.args.self.now.committed == c.args.before.now.committed)) (change.Committed c.args.self.now.committed) in
    on-err c.from_residual-in_err-push_change_if-2.result _ (in_part c.args.changes.now.items ring _ _ c.push_change_if-2.new.changes.items
    (sym (append_assoc (ring ++ state ++ committed) _ _ ∙ append_assoc (ring ++ state) committed _ ∙ append_assoc ring state _))
    (cc (c.in_err-push_change_if-2.ensures.err, c.in_ok-push_change_if.ensures.ok, c.is_new_ring-is_ring.ensures, c.ring_change.ensures)))

pub returns-in_err-push_change_if-3-clause-err : goal.returns-in_err-push_change_if-3-clause-err
returns-in_err-push_change_if-3-clause-err g c =
    let old = c.args.changes.now.items in
    let ring = change_if (is_new_ring c.args.before.now c.args.self.now) (ring_change c.args.nodes c.args.self.now) in
    let state = change_if (is_new_state c.args.before.now c.args.self.now) (change.State c.args.self.now.state) in
    let committed = change_if (not (c.args.self.now.committed == c.args.before.now.committed)) (change.Committed c.args.self.now.committed) in
    on-err c.from_residual-in_err-push_change_if-3.result _ (in_part old (ring ++ state) _ _ c.push_change_if-3.new.changes.items
    (sym (append_assoc (ring ++ state ++ committed) _ _ ∙ append_assoc (ring ++ state) committed _))
    (cc (
      c.in_err-push_change_if-3.ensures.err,
      c.in_ok-push_change_if-2.ensures.ok,
      c.in_ok-push_change_if.ensures.ok,
      c.is_new_state-is_state.ensures,
      c.is_new_ring-is_ring.ensures,
      c.ring_change.ensures,
      append_assoc old ring state,
    )))

pub returns-in_err-push_change_if-4-clause-err : goal.returns-in_err-push_change_if-4-clause-err
returns-in_err-push_change_if-4-clause-err g c =
    let old = c.args.changes.now.items in
    let ring = change_if (is_new_ring c.args.before.now c.args.self.now) (ring_change c.args.nodes c.args.self.now) in
    let state = change_if (is_new_state c.args.before.now c.args.self.now) (change.State c.args.self.now.state) in
    let committed = change_if (not (c.args.self.now.committed == c.args.before.now.committed)) (change.Committed c.args.self.now.committed) in
    on-err c.from_residual-in_err-push_change_if-4.result _ (in_part old (ring ++ state ++ committed) _ _ c.push_change_if-4.new.changes.items
    (sym (append_assoc (ring ++ state ++ committed) _ _))
    (cc (
      c.in_err-push_change_if-4.ensures.err,
      c.in_ok-push_change_if-3.ensures.ok,
      c.in_ok-push_change_if-2.ensures.ok,
      c.in_ok-push_change_if.ensures.ok,
      c.is_new_state-is_state.ensures,
      c.is_new_ring-is_ring.ensures,
      c.ring_change.ensures,
      append_assoc old ring state,
      append_assoc old (ring ++ state) committed,
    )))

pub returns-clause-err : goal.returns-clause-err
returns-clause-err g c =
    let old = c.args.changes.now.items in
    let ring = change_if (is_new_ring c.args.before.now c.args.self.now) (ring_change c.args.nodes c.args.self.now) in
    let state = change_if (is_new_state c.args.before.now c.args.self.now) (change.State c.args.self.now.state) in
    let committed = change_if (not (c.args.self.now.committed == c.args.before.now.committed)) (change.Committed c.args.self.now.committed) in
    let restored = change_if (is_some c.args.self.now.restored) (restored_change c.args.self.now) in
    from_err c.push_change_if-5.result _ _ (λ kept. in_part old (ring ++ state ++ committed ++ restored) _ _ c.push_change_if-5.new.changes.items refl
    (cc (
      kept,
      c.in_ok-push_change_if-4.ensures.ok,
      c.in_ok-push_change_if-3.ensures.ok,
      c.in_ok-push_change_if-2.ensures.ok,
      c.in_ok-push_change_if.ensures.ok,
      c.is_some-is_restored.ensures,
      c.restored_change.ensures,
      c.is_new_state-is_state.ensures,
      c.is_new_ring-is_ring.ensures,
      c.ring_change.ensures,
      append_assoc old ring state,
      append_assoc old (ring ++ state) committed,
      append_assoc old (ring ++ state ++ committed) restored,
    ))) c.push_change_if-5.ensures.err
