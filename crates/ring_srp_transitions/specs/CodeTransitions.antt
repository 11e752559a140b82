-- The code's transitions as those of the definitions, case by case.
use Rattle.ring_srp_transitions.specs.declared.transition.Transition.{Transition as Told}
use Rattle.ring_srp_transitions.specs.declared.transition.Transition.TheVariants as told
use Rattle.ring_core_spec.specs.Deciding.{Transition, Ignore, Enqueue, Repeat, Announce, Invite, GiveUp, EnterGather, Agree, MergeJoin}
use Rattle.ring_core_spec.specs.Deciding.{EnterGatherAndAgree, EnterGatherAndMergeJoin, Take, Visit, Fill, Learn}

-- The transition of the definitions that a transition of the code is.
abbrev pub transition_of : {A : Type 0} → Told A → Transition A
transition_of told.Ignore = Ignore
transition_of (told.Enqueue payload) = Enqueue payload
transition_of told.Repeat = Repeat
transition_of told.Announce = Announce
transition_of told.Invite = Invite
transition_of told.GiveUp = GiveUp
transition_of told.EnterGather = EnterGather
transition_of (told.Agree join) = Agree join
transition_of (told.MergeJoin join) = MergeJoin join
transition_of (told.EnterGatherAndAgree join) = EnterGatherAndAgree join
transition_of (told.EnterGatherAndMergeJoin join) = EnterGatherAndMergeJoin join
transition_of (told.Take message) = Take message
transition_of (told.Visit token) = Visit token
transition_of (told.Fill commit) = Fill commit
transition_of (told.Learn commit) = Learn commit
