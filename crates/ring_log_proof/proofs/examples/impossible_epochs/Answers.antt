use Rattle.ring_log_proof.proofs.RefutedExamples.{refuses-missing_heads, refuses-misheard, refuses-smaller, refuses-silent, refuses-falling, refuses-older_head}
use Rattle.ring_log_proof.proofs.RefutedExamples.{refuses-late_head, refuses-wrong_part}
use Rattle.ring_log_proof.proofs.examples.impossible_epochs.Goals as goal

pub returns-clause-missing_heads : goal.returns-clause-missing_heads
returns-clause-missing_heads c = refuses-missing_heads

pub returns-clause-misheard : goal.returns-clause-misheard
returns-clause-misheard c = refuses-misheard

pub returns-clause-smaller : goal.returns-clause-smaller
returns-clause-smaller c = refuses-smaller

pub returns-clause-silent : goal.returns-clause-silent
returns-clause-silent c = refuses-silent

pub returns-clause-falling : goal.returns-clause-falling
returns-clause-falling c = refuses-falling

pub returns-clause-older_head : goal.returns-clause-older_head
returns-clause-older_head c = refuses-older_head

pub returns-clause-late_head : goal.returns-clause-late_head
returns-clause-late_head c = refuses-late_head

pub returns-clause-wrong_part : goal.returns-clause-wrong_part
returns-clause-wrong_part c = refuses-wrong_part
