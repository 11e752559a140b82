-- The input, the frames and the outcome are counted one after another.
use Rattle.ring_counts.proofs.node_counts.NodeCounts.note_step.Goals as goal

pub returns : goal.returns
returns g c = rw (c.has_sent_frame.ensures, c.note_sends.ensures, c.note_input.ensures) at c.note_outcome.ensures
