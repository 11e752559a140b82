use Rattle.ring_order_proof.proofs.SendCounts.{few_frames, few_sends}
use Rattle.ring_order_proof.proofs.AnswerCounts.{few_answers}
use Rattle.ring_order_proof.proofs.frame_laws.step_counts_law.Goals as goal

pub returns-clause-frames : goal.returns-clause-frames
returns-clause-frames g c = few_frames

pub returns-clause-sends : goal.returns-clause-sends
returns-clause-sends g c = few_sends g.O.Object.sequential

pub returns-clause-answers : goal.returns-clause-answers
returns-clause-answers g c = few_answers g.O.Object.sequential
