-- The borrowed frames are those that the step sent.
use Rattle.ring_world.proofs.world.record_step_outputs.Goals as goal

pub record_frames-requires-clause-fit : goal.record_frames-requires-clause-fit
record_frames-requires-clause-fit g c = rw c.deref.ensures.value c.requires.fit
