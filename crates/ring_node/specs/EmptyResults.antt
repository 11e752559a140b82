-- Empty outputs of a step: those of a refused step, and those before the replica follows its core.
-- Rules: Refusals 6
use Rattle.std.specs.Prelude.{◌≡◌, [], None}
use Rattle.ring_node.specs.declared.outs.Outs.{Outs}

-- no frame is sent, no answer is given, and no place is committed, dropped or restored
pub record IsEmptyResult {A : Type 0} (outs : Outs A) : Type 0 where
  pub sends : outs.sends.items ≡ []
  pub answers : outs.answers.items ≡ []
  pub committed : outs.committed.items ≡ []
  pub dropped : outs.dropped.items ≡ []
  pub restored : outs.restored ≡ None

-- only frames are sent
pub record HasFramesOnly {A : Type 0} (outs : Outs A) : Type 0 where
  pub answers : outs.answers.items ≡ []
  pub committed : outs.committed.items ≡ []
  pub dropped : outs.dropped.items ≡ []
  pub restored : outs.restored ≡ None
