use Rattle.std.proofs.Common.{◌≡◌, take}
use Rattle.std.specs.Prelude.{count_by}
use Rattle.ring_explore.specs.Explored.{is_answer}
use Rattle.ring_explore.proofs.seed_run.reported_answer_count.Given as goal

-- The answers among the reports so far.
abbrev pub invariant-loop-told : goal.invariant-loop-told
invariant-loop-told g l = l.many ≡ count_by is_answer (take l.told-index l.told-items)
