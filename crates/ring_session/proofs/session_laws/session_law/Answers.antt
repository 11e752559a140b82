use Rattle.ring_session.proofs.OneEffectLaws.{each_is_done, is_done_once, replies_are_the_objects, replies_are_one, answers_stay}
use Rattle.ring_session.proofs.session_laws.session_law.Goals as goal

pub returns : goal.returns
returns g c = record {
  done = each_is_done g.O.Object.sequential;
  once = is_done_once g.O.Object.sequential;
  replied = replies_are_the_objects g.O.Object.sequential;
  one_reply = replies_are_one g.O.Object.sequential;
  stays = answers_stay g.O.Object.sequential;
}
