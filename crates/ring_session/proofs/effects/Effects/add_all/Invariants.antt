use Rattle.std.proofs.Common.{List, ◌++◌, take}
use Rattle.ring_payload.specs.declared.call.Call.{Call}
use Rattle.ring_session.specs.Effects.{AreEffectsOf}
use Rattle.ring_session.proofs.effects.Effects.add_all.Given as goal

abbrev pub invariant-loop-call : goal.invariant-loop-call
invariant-loop-call g l = (before : List (Call g.row.A.Denot)) → AreEffectsOf before l.initial.self
    → AreEffectsOf (before ++ take l.call-index l.calls) l.self
