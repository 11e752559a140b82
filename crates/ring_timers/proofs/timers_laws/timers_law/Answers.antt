use Rattle.ring_timers.proofs.Beginnings.{counted, time-timers_after_all, periods-timers_after_all}
use Rattle.ring_timers.proofs.TakenOnce.{taken_once}
use Rattle.ring_timers.proofs.NextTimes.{none_due_before, one_due_from}
use Rattle.ring_timers.specs.Timers.{timers_opened}
use Rattle.ring_timers.proofs.timers_laws.timers_law.Goals as goal

pub returns-clause-beginnings : goal.returns-clause-beginnings
returns-clause-beginnings c = counted

pub returns-clause-time : goal.returns-clause-time
returns-clause-time c = λ periods opening events. time-timers_after_all (timers_opened periods opening) events

pub returns-clause-periods : goal.returns-clause-periods
returns-clause-periods c = λ periods opening events. periods-timers_after_all (timers_opened periods opening) events

pub returns-clause-once : goal.returns-clause-once
returns-clause-once c = taken_once

pub returns-clause-before : goal.returns-clause-before
returns-clause-before c = none_due_before

pub returns-clause-from : goal.returns-clause-from
returns-clause-from c = one_due_from
