-- One more answer is copied.
use Rattle.std.proofs.Common.{◌++◌, ◌∷◌, [], ap, sym, ◌∙◌, rules, arith}
use Rattle.ring_base.proofs.Rows.{take-next}
use Rattle.ring_session.proofs.recent_answers.copy_with_full_capacity.Goals as goal

pub loop-place-preserved : goal.loop-place-preserved
loop-place-preserved g c =
    let l = c.loop-place in
    let items = c.args.answers.now.items in
    let answer = c.index.result.now in
    let pushed = c.push_back_reserved.ensures in
    record {
      items = pushed.items ∙ ap (λ xs. xs ++ answer ∷ []) l.invariant.items ∙ sym (take-next items l.place answer (search rules) c.index.ensures);
      len = search rules;
      room = omega (arith, pushed.capacity, l.invariant.room);
    }
