use Rattle.std.proofs.Common.{◌<◌, ◌∙◌, arith, length, length-set, refl}
use Rattle.std.proofs.lemmas.Option.{slice_get_read}
use Rattle.ring_book.proofs.Entering.{roomier-refl, roomier-set, room-set, room-all}
use Rattle.ring_book.proofs.book.reserve_answers.Goals as goal

pub loop-at-init : goal.loop-at-init
loop-at-init g c = record {
  stays = roomier-refl c.args.answer_indexes.now.items;
  rooms = λ i t low e. absurd (omega (arith, low));
  many = omega (arith, c.len-at-end.ensures, c.args.answer_indexes.now.ok.0);
}

pub returns-in_err-reserve-clause-stays : goal.returns-in_err-reserve-clause-stays
returns-in_err-reserve-clause-stays g c =
    let i = c.loop-at.at in
    let within : i < length c.loop-at.answer_indexes.items = omega (arith, c.loop-at-test.true, c.loop-at.invariant.many) in
    let at = slice_get_read c.loop-at.answer_indexes.items (length c.loop-at.answer_indexes.items) i c.index_mut.result.now refl within c.index_mut.ensures.value in
    roomier-set c.args.answer_indexes.now.items c.loop-at.answer_indexes.items i c.index_mut.result.now c.reserve.new.self
    c.loop-at.invariant.stays at record { answers = c.reserve.ensures.answers; room = c.reserve.ensures.stays }

pub loop-at-preserved : goal.loop-at-preserved
loop-at-preserved g c =
    let i = c.loop-at.at in
    let within : i < length c.loop-at.answer_indexes.items = omega (arith, c.loop-at-test.true, c.loop-at.invariant.many) in
    let at = slice_get_read c.loop-at.answer_indexes.items (length c.loop-at.answer_indexes.items) i c.index_mut.result.now refl within c.index_mut.ensures.value in
    record {
      stays = roomier-set c.args.answer_indexes.now.items c.loop-at.answer_indexes.items i c.index_mut.result.now c.reserve.new.self
          c.loop-at.invariant.stays at record { answers = c.reserve.ensures.answers; room = c.reserve.ensures.stays };
      rooms = room-set c.loop-at.answer_indexes.items c.args.more i c.reserve.new.self c.loop-at.invariant.rooms c.in_ok-reserve.ensures.room;
      many = length-set c.loop-at.answer_indexes.items i c.reserve.new.self ∙ c.loop-at.invariant.many;
    }

pub returns-clause-room : goal.returns-clause-room
returns-clause-room g c = room-all c.loop-at.answer_indexes.items c.args.more c.loop-at.at c.loop-at.invariant.rooms
    (omega (arith, c.loop-at-test.false, c.loop-at.invariant.many))
