-- Answers are recorded one by one.
use Rattle.std.proofs.Common.{[], ◌++◌, List, ◌≡◌, refl, ap, ◌∙◌, sym, subst, arith}
use Rattle.std.specs.Prelude.{vec_len, vec_capacity}
use Rattle.std.proofs.lemmas.List.{map-id}
use Rattle.std.proofs.lemmas.Iterator.Adapters.{YieldsList-from_vec}
use Rattle.std.proofs.lemmas.Iterator.Consumers.{YieldsList-end, YieldsList-so_far, YieldsList-turn}
use Rattle.std.proofs.lemmas.Option.{slice_get_read}
use Rattle.ring_session.specs.declared.ticket_answer.TicketAnswer.{TicketAnswer}
use Rattle.ring_node_spec.specs.Worlds.{reply_items_of, reports_of_answers}
use Rattle.ring_world.specs.SpareCalls.{HasCopy, copies_after_answers}
use Rattle.ring_world.proofs.Tellings.{none_told, one_told, none_taken, one_taken, left_at}
use Rattle.ring_world.proofs.answer_records.record_all_answers.Goals as goal

pub loop-answered-init : goal.loop-answered-init
loop-answered-init g c = (
  none_told c.args.node [] c.args.told.now.items c.args.history.now.items
      c.args.spares.now.calls,
  none_taken (vec_len c.args.told.now) (vec_capacity c.args.told.now),
  none_taken (vec_len c.args.history.now) (vec_capacity c.args.history.now),
)

pub record_answer-requires-clause-left : goal.record_answer-requires-clause-left
record_answer-requires-clause-left g c =
    let begun = c.into_iter-answered-iterator.ensures.into_iter_gives in
    let road = YieldsList-from_vec c.args.answers.items begun.0 (begun.1 ∙ c.args.answers.ok.0) in
    let turn = YieldsList-turn road c.loop-answered.yielded c.loop-answered.answered-iterator
    c.loop-answered.yielded_by c.next.result c.next.new.self c.in-Some.answered c.in-Some.is c.next.ensures.steps in
    let at = slice_get_read c.args.answers.items _ _ c.in-Some.answered refl turn.0 turn.1 in
    let first = sym (map-id c.loop-answered.yielded)
    ∙ YieldsList-so_far road c.loop-answered.yielded c.loop-answered.answered-iterator c.loop-answered.yielded_by in
    subst (λ cs. HasCopy cs c.in-Some.answered.ticket c.in-Some.answered.call) (sym c.loop-answered.invariant.0.spares)
    (left_at c.args.spares.now.calls c.args.answers.items c.loop-answered.yielded c.in-Some.answered first at c.requires.left)

pub record_answer-requires-clause-told_room : goal.record_answer-requires-clause-told_room
record_answer-requires-clause-told_room g c =
    let begun = c.into_iter-answered-iterator.ensures.into_iter_gives in
    let road = YieldsList-from_vec c.args.answers.items begun.0 (begun.1 ∙ c.args.answers.ok.0) in
    let turn = YieldsList-turn road c.loop-answered.yielded c.loop-answered.answered-iterator
    c.loop-answered.yielded_by c.next.result c.next.new.self c.in-Some.answered c.in-Some.is c.next.ensures.steps in
    let within = turn.0 in
    let room = c.requires.told_room in
    let taken = c.loop-answered.invariant.1 in
    let len = taken.len_is in
    let capacity = taken.capacity_is in
    omega (arith, within, room, len, capacity)

pub record_answer-requires-clause-history_room : goal.record_answer-requires-clause-history_room
record_answer-requires-clause-history_room g c =
    let begun = c.into_iter-answered-iterator.ensures.into_iter_gives in
    let road = YieldsList-from_vec c.args.answers.items begun.0 (begun.1 ∙ c.args.answers.ok.0) in
    let turn = YieldsList-turn road c.loop-answered.yielded c.loop-answered.answered-iterator
    c.loop-answered.yielded_by c.next.result c.next.new.self c.in-Some.answered c.in-Some.is c.next.ensures.steps in
    let within = turn.0 in
    let room = c.requires.history_room in
    let taken = c.loop-answered.invariant.2 in
    let len = taken.len_is in
    let capacity = taken.capacity_is in
    omega (arith, within, room, len, capacity)

pub loop-answered-preserved : goal.loop-answered-preserved
loop-answered-preserved g c =
    let i = c.loop-answered.invariant in
    let e = c.record_answer.ensures in
    let told_more = e.told_len in (
      one_told c.args.node c.loop-answered.yielded c.args.told.now.items c.args.history.now.items
          c.args.spares.now.calls c.in-Some.answered c.loop-answered.told.items c.record_answer.new.told.items
          c.loop-answered.history.items c.record_answer.new.history.items c.loop-answered.spares.calls c.record_answer.new.spares.calls i.0 e.told e.history e.spares,
      one_taken c.loop-answered.yielded c.in-Some.answered (vec_len c.args.told.now) (vec_len c.loop-answered.told)
          (vec_len c.record_answer.new.told) (vec_capacity c.args.told.now) (vec_capacity c.loop-answered.told)
          (vec_capacity c.record_answer.new.told) i.1 (omega (arith, told_more)) e.told_capacity,
      one_taken c.loop-answered.yielded c.in-Some.answered (vec_len c.args.history.now)
          (vec_len c.loop-answered.history) (vec_len c.record_answer.new.history) (vec_capacity c.args.history.now)
          (vec_capacity c.loop-answered.history)
          (vec_capacity c.record_answer.new.history) i.2 e.history_len e.history_capacity,
    )

pub returns-clause-told : goal.returns-clause-told
returns-clause-told g c =
    let begun = c.into_iter-answered-iterator.ensures.into_iter_gives in
    let road = YieldsList-from_vec c.args.answers.items begun.0 (begun.1 ∙ c.args.answers.ok.0) in
    let ended = YieldsList-end road c.loop-answered.yielded c.loop-answered.answered-iterator
    c.loop-answered.yielded_by c.next.result c.next.new.self c.in-None.is c.next.ensures.steps in
    let all : c.loop-answered.yielded ≡ c.args.answers.items = sym (map-id c.loop-answered.yielded) ∙ ended.0 in
    c.loop-answered.invariant.0.told_is ∙ ap (λ (xs : List (TicketAnswer g.row.A.Denot)). c.args.told.now.items ++ reports_of_answers c.args.node xs) all

pub returns-clause-history : goal.returns-clause-history
returns-clause-history g c =
    let begun = c.into_iter-answered-iterator.ensures.into_iter_gives in
    let road = YieldsList-from_vec c.args.answers.items begun.0 (begun.1 ∙ c.args.answers.ok.0) in
    let ended = YieldsList-end road c.loop-answered.yielded c.loop-answered.answered-iterator
    c.loop-answered.yielded_by c.next.result c.next.new.self c.in-None.is c.next.ensures.steps in
    let all : c.loop-answered.yielded ≡ c.args.answers.items = sym (map-id c.loop-answered.yielded) ∙ ended.0 in
    c.loop-answered.invariant.0.history_is ∙ ap (λ (xs : List (TicketAnswer g.row.A.Denot)). c.args.history.now.items ++ reply_items_of xs) all

pub returns-clause-spares : goal.returns-clause-spares
returns-clause-spares g c =
    let begun = c.into_iter-answered-iterator.ensures.into_iter_gives in
    let road = YieldsList-from_vec c.args.answers.items begun.0 (begun.1 ∙ c.args.answers.ok.0) in
    let ended = YieldsList-end road c.loop-answered.yielded c.loop-answered.answered-iterator
    c.loop-answered.yielded_by c.next.result c.next.new.self c.in-None.is c.next.ensures.steps in
    let all : c.loop-answered.yielded ≡ c.args.answers.items = sym (map-id c.loop-answered.yielded) ∙ ended.0 in
    c.loop-answered.invariant.0.spares ∙ ap (λ (xs : List (TicketAnswer g.row.A.Denot)). copies_after_answers c.args.spares.now.calls xs) all
