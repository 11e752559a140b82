use Rattle.ring_script.proofs.CutGroups.{are_connected, cut_everyone, cut_once, cut_at-union_of_groups}
use Rattle.ring_script.proofs.laws.cut_law.Goals as goal

pub returns-clause-union_of_groups : goal.returns-clause-union_of_groups
returns-clause-union_of_groups c = are_connected

pub returns-clause-everyone : goal.returns-clause-everyone
returns-clause-everyone c = cut_everyone

pub returns-clause-once : goal.returns-clause-once
returns-clause-once c = cut_once

pub returns-clause-told : goal.returns-clause-told
returns-clause-told c = cut_at-union_of_groups
