-- One more committed call: it goes through the sessions, and its answer goes to the tickets of the same call.
use Rattle.std.proofs.Common.{◌≡◌, ℕ, ◌+◌, ◌++◌, [], List, drop, take, fold, refl, ap, sym, subst, ◌∙◌, append-nil, arith, rules, if◌then◌else◌}
use Rattle.std.proofs.lemmas.List.{drop_all}
use Rattle.ring_payload.specs.declared.call.Call.{Call}
use Rattle.ring_session.specs.Buckets.{AreCommitted}
use Rattle.ring_session.specs.Table.{table_next}
use Rattle.ring_session.specs.TicketEffects.{done_after}
use Rattle.ring_session.specs.TicketsState.{answers_after_committed}
use Rattle.ring_session.proofs.TicketEffects.{done-next}
use Rattle.ring_base.proofs.Rows.{drop-next, take-next}
use Rattle.ring_session.proofs.Pendings.{answers-on}
use Rattle.ring_session.proofs.BucketPlaces.{answers_to-split}
use Rattle.ring_session.proofs.tickets.answers_of_pending.Goals as goal
use Rattle.ring_session.proofs.tickets.answers_of_pending.Goals.{then-is_done_answer, else-is_done_answer}

pub loop-place-preserved : goal.loop-place-preserved
loop-place-preserved g c =
    let object = g.O.Object.sequential in
    let pending = c.args.pending.now in
    let more = c.args.committed.now in
    let i : ℕ = c.loop-place.place in
    let call = c.index-committed-place.result in
    let rest = drop-next more i call c.loop-place-test.true c.index-committed-place.is in
    let first = take-next more i call c.loop-place-test.true c.index-committed-place.is in
    let answer = c.in_ok-answer.ensures.answer in
    let after = c.in_ok-answer.ensures.ok in
    record {
      few = elim c.if-is_done_answer.branch [ then-is_done_answer w ↦ omega arith | else-is_done_answer w ↦ omega arith ];
      effects =
          done-next object c.loop-place.sessions c.apply.new.self more i call c.in_ok-answer.answer
          (done_after object c.args.sessions.now more) c.loop-place.effects c.if-is_done_answer.effects
          rest answer after
          (elim c.if-is_done_answer.branch [
            | then-is_done_answer w ↦ let one = ap {B = ℕ} (λ b. if b then 1 else 0) (sym c.is_done_answer.ensures ∙ w.if-is_done_answer.true) in omega (arith, one)
            | else-is_done_answer w ↦ let none = ap {B = ℕ} (λ b. if b then 1 else 0) (sym c.is_done_answer.ensures ∙ w.if-is_done_answer.false) in omega (arith, none)
          ])
          c.loop-place.invariant.effects;
      table = c.loop-place.invariant.table ∙ ap (fold (table_next object) c.loop-place.sessions) rest
          ∙ ap (λ t. fold (table_next object) t (drop (i + 1) more)) (sym after);
      gone = subst (λ (calls : List (Call g.row.O-Alloc.Denot)). AreCommitted c.append_bucketed_answers.new.committed_flags.committed_marks calls c.split_at.result.0.now) (sym first)
          (c.in_ok-append_bucketed_answers.ensures.gone (take i more) c.loop-place.invariant.gone);
      answers =
          answers-on object c.loop-place.sessions c.apply.new.self pending more _ i call c.in_ok-answer.answer
          (answers_after_committed object c.args.sessions.now pending [] more)
          c.loop-place.answers.items c.append_unbucketed_answers.new.answers.items rest first refl answer after
          (answers_to-split (take i more) call c.in_ok-answer.answer pending c.split_at.result.0.now c.split_at.result.1.now
          c.loop-place.answers.items c.append_bucketed_answers.new.answers.items c.append_unbucketed_answers.new.answers.items c.split_at.ensures.by_index.0
          (c.in_ok-append_bucketed_answers.ensures.answers (take i more) c.loop-place.invariant.gone) c.in_ok-append_unbucketed_answers.ensures.answers)
          c.loop-place.invariant.answers;
    }

-- After the last call none is left to come.
pub returns : goal.returns
returns g c =
    let object = g.O.Object.sequential in
    let l = c.loop-place in
    let none = drop_all l.place c.args.committed.now c.loop-place-test.false in
    let items = l.answers.items in
    let before = take l.place c.args.committed.now in
    let done : done_after object l.sessions (drop l.place c.args.committed.now) ≡ 0 = ap (done_after object l.sessions) none in
    record {
      table = sym (l.invariant.table ∙ ap (fold (table_next object) l.sessions) none);
      answers = sym (l.invariant.answers ∙ ap (λ more. items ++ answers_after_committed object l.sessions c.args.pending.now before more) none ∙ append-nil items);
      effects = omega (arith, done, l.invariant.effects);
      refused = search rules;
    }
