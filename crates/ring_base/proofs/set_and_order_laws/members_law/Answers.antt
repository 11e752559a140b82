use Rattle.ring_base.specs.Elements.{IsStrictlyIncreasing-elements, elements_members, at-position_of, position_of-at}
use Rattle.ring_base.specs.Members.{member_proc}
use Rattle.ring_base.proofs.set_and_order_laws.members_law.Goals as goal

pub returns-clause-ascending : goal.returns-clause-ascending
returns-clause-ascending c = IsStrictlyIncreasing-elements

pub returns-clause-members : goal.returns-clause-members
returns-clause-members c = elements_members

pub returns-clause-places : goal.returns-clause-places
returns-clause-places c = at-position_of

pub returns-clause-positions : goal.returns-clause-positions
returns-clause-positions c = position_of-at

pub returns-clause-processors : goal.returns-clause-processors
returns-clause-processors c = member_proc
