-- A step's calls are applied to the restored sessions, or to those from before.
use Rattle.std.proofs.Common.{◌+◌, ◌-◌, ◌^◌, min, [], ap, sym, ◌∙◌, if◌then◌else◌}
use Rattle.std.specs.Prelude.{fold, is_some}
use Rattle.ring_session.specs.TicketsState.{answers_after_committed}
use Rattle.ring_session.specs.Table.{table_next}
use Rattle.ring_session.specs.TicketEffects.{done_after, table_effects}
use Rattle.ring_replica.specs.Replicas.{table_held, newly_committed_calls}
use Rattle.ring_replica.proofs.replica.apply_committed.Goals as goal

pub returns-then-not-fits-clause-fits : goal.returns-then-not-fits-clause-fits
returns-then-not-fits-clause-fits g c = sym c.if-not-fits.true ∙ c.in_ok-fits.ensures.fits

pub returns-then-not-fits-clause-table : goal.returns-then-not-fits-clause-table
returns-then-not-fits-clause-table g c = λ holds.
    absurd (let never = sym holds ∙ sym c.in_ok-fits.ensures.fits ∙ c.if-not-fits.true in cc never)

pub returns-then-not-fits-clause-answers : goal.returns-then-not-fits-clause-answers
returns-then-not-fits-clause-answers g c = λ holds.
    absurd (let never = sym holds ∙ sym c.in_ok-fits.ensures.fits ∙ c.if-not-fits.true in cc never)

pub returns-then-not-fits-clause-committed : goal.returns-then-not-fits-clause-committed
returns-then-not-fits-clause-committed g c = λ holds.
    absurd (let never = sym holds ∙ sym c.in_ok-fits.ensures.fits ∙ c.if-not-fits.true in cc never)

pub returns-clause-fits : goal.returns-clause-fits
returns-clause-fits g c = sym c.if-not-fits.false ∙ c.in_ok-fits.ensures.fits

pub returns-clause-table : goal.returns-clause-table
returns-clause-table g c = λ holds.
    let object = g.O.Object.sequential in
    c.in_ok-answers.ensures.table
    ∙ ap (λ t. fold (table_next object) t (newly_committed_calls c.args.committed c.log-2.result.now)) (c.in_ok-fits.ensures.table holds)
    ∙ ap (λ l. fold (table_next object) (table_held object c.args.held.now c.args.sessions.now) (newly_committed_calls c.args.committed l)) c.log-2.ensures

pub returns-clause-answers : goal.returns-clause-answers
returns-clause-answers g c = λ holds.
    let object = g.O.Object.sequential in
    c.in_ok-answers.ensures.answers
    ∙ ap (λ t. answers_after_committed object t c.args.pending.now [] (newly_committed_calls c.args.committed c.log-2.result.now)) (c.in_ok-fits.ensures.table holds)
    ∙ ap (λ l. answers_after_committed object (table_held object c.args.held.now c.args.sessions.now) c.args.pending.now [] (newly_committed_calls c.args.committed l)) c.log-2.ensures

pub returns-clause-committed : goal.returns-clause-committed
returns-clause-committed g c = λ holds. c.in_ok-replica_output.ensures.calls ∙ ap (newly_committed_calls c.args.committed) c.log.ensures

pub returns-clause-nothing : goal.returns-clause-nothing
returns-clause-nothing g c = λ lost. absurd (let never = sym lost ∙ sym c.in_ok-fits.ensures.fits ∙ c.if-not-fits.false in cc never)

pub returns-clause-effects_in_step : goal.returns-clause-effects_in_step
returns-clause-effects_in_step g c =
    let object = g.O.Object.sequential in
    let held = c.args.held.now in
    let holds = sym (sym c.if-not-fits.false ∙ c.in_ok-fits.ensures.fits) in
    let log = c.log-2.result.now in
    let table = table_held object held c.args.sessions.now in
    c.in_ok-answers.ensures.effects
    ∙ ap (λ e. min (2 ^ 64 - 1) (e + done_after object c.restore_sessions_if_due.new.sessions (newly_committed_calls c.args.committed log))) c.effects_after_restore-effects.ensures
    ∙ ap (λ t. min (2 ^ 64 - 1) ((if is_some held.before then table_effects t else c.args.effects) + done_after object t (newly_committed_calls c.args.committed log)))
    (c.in_ok-fits.ensures.table holds)
    ∙ ap (λ l. min (2 ^ 64 - 1) ((if is_some held.before then table_effects table else c.args.effects) + done_after object table (newly_committed_calls c.args.committed l)))
    c.log-2.ensures
