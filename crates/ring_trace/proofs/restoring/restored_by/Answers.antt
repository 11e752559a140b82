use Rattle.ring_trace.proofs.restoring.restored_by.Goals as goal

pub returns-clause-told : goal.returns-clause-told
returns-clause-told g c = rw c.in_ok-copy.ensures.ok at c.step_copy-restored.ensures.told
