use Rattle.std.proofs.Common.{[], ◌∙◌}
use Rattle.ring_session.proofs.effects.effects_of.Goals as goal

pub returns-clause-ok : goal.returns-clause-ok
returns-clause-ok g c = c.into_calls.ensures ∙ (c.in_ok-add_all.ensures.ok [] c.in_ok-effects.ensures.ok).calls_are
