use Rattle.std.proofs.Common.{ap, ◌∙◌}
use Rattle.ring_base.proofs.SetWords.{shr_everybody}
use Rattle.ring_base.specs.Group.{Group}
use Rattle.ring_base.specs.Members.{everybody_members}
use Rattle.ring_base.specs.Processors.{everybody}
use Rattle.ring_base.proofs.fixed.Fixed.everybody.Goals as goal

pub returns-clause-value : goal.returns-clause-value
returns-clause-value c =
    c.from_bits.ensures ∙ (shr_everybody c.self.inside.count c.self.invariant.processors ∙ ap (λ (group : Group). everybody group.count) c.self.view_is)

pub returns-clause-members : goal.returns-clause-members
returns-clause-members c = λ i. rw (returns-clause-value c) (everybody_members c.args.self.count i)
