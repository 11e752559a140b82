-- One more committed call: it goes through the sessions.
use Rattle.std.proofs.Common.{ℕ, ◌+◌, drop, fold, ap, sym, ◌∙◌, arith, if◌then◌else◌}
use Rattle.ring_session.specs.Table.{table_next}
use Rattle.ring_session.specs.TicketEffects.{done_after}
use Rattle.ring_session.proofs.TicketEffects.{done-next}
use Rattle.ring_base.proofs.Rows.{drop-next}
use Rattle.ring_session.proofs.tickets.apply_and_count_effects.Goals as goal
use Rattle.ring_session.proofs.tickets.apply_and_count_effects.Goals.{then-is_done_answer, else-is_done_answer}

pub loop-call-preserved : goal.loop-call-preserved
loop-call-preserved g c =
    let object = g.O.Object.sequential in
    let more = c.args.committed.now in
    let i : ℕ = c.loop-call.call-index in
    let call = c.call-item.result in
    let rest = drop-next more i call c.loop-call-test.true c.call-item.is in
    let answer = c.in_ok-answer.ensures.answer in
    let after = c.in_ok-answer.ensures.ok in
    record {
      few = elim c.if-is_done_answer.branch [ then-is_done_answer w ↦ omega arith | else-is_done_answer w ↦ omega arith ];
      effects =
          done-next object c.loop-call.sessions c.apply.new.self more i call c.in_ok-answer.answer
          (done_after object c.args.sessions.now more) c.loop-call.effects c.if-is_done_answer.effects
          rest answer after
          (elim c.if-is_done_answer.branch [
            | then-is_done_answer w ↦ let one = ap {B = ℕ} (λ b. if b then 1 else 0) (sym c.is_done_answer.ensures ∙ w.if-is_done_answer.true) in omega (arith, one)
            | else-is_done_answer w ↦ let none = ap {B = ℕ} (λ b. if b then 1 else 0) (sym c.is_done_answer.ensures ∙ w.if-is_done_answer.false) in omega (arith, none)
          ])
          c.loop-call.invariant.effects;
      table = c.loop-call.invariant.table ∙ ap (fold (table_next object) c.loop-call.sessions) rest
          ∙ ap (λ t. fold (table_next object) t (drop (i + 1) more)) (sym after);
    }
