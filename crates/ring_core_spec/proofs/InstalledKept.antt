-- A transition, and the proposal after it, leaves the installed ring as it is; a proposal also leaves each ring's
-- safe mark as it is.
use Rattle.std.proofs.Common.{◌≡◌, refl, Bool, true, false, ◌∙◌}
use Rattle.std.specs.Prelude.{◌&&◌}
use Rattle.ring_base.specs.declared.ring_id.RingId.{RingId}
use Rattle.ring_core_spec.specs.State.{Core, TransitionResult}
use Rattle.ring_core_spec.specs.Deciding.{Transition, Ignore, Enqueue, Repeat, Announce, Invite, GiveUp, EnterGather, Agree, MergeJoin}
use Rattle.ring_core_spec.specs.Deciding.{EnterGatherAndAgree, EnterGatherAndMergeJoin, Take, Visit, Fill, Learn}
use Rattle.ring_core_spec.specs.Transitions.{apply_transition, with_proposal_if, may_propose_after, transition_and_proposal}
use Rattle.ring_core_spec.specs.Joining.{proposes}
use Rattle.ring_core_spec.specs.Views.{mark}

-- no transition installs a ring
pub act_installed : {A : Type 0} (c : Core A) (a : Transition A) → (apply_transition c a).core.installed ≡ c.installed
act_installed c Ignore = refl
act_installed c (Enqueue payload) = refl
act_installed c Repeat = refl
act_installed c Announce = refl
act_installed c Invite = refl
act_installed c GiveUp = refl
act_installed c EnterGather = refl
act_installed c (Agree j) = refl
act_installed c (MergeJoin j) = refl
act_installed c (EnterGatherAndAgree j) = refl
act_installed c (EnterGatherAndMergeJoin j) = refl
act_installed c (Take x) = refl
act_installed c (Visit t) = refl
act_installed c (Fill k) = refl
act_installed c (Learn k) = refl

pub proposed_installed : {A : Type 0} (b : Bool) (did : TransitionResult A) → (with_proposal_if b did).core.installed ≡ did.core.installed
proposed_installed true did = refl
proposed_installed false did = refl

pub done_installed : {A : Type 0} (c : Core A) (a : Transition A) → (transition_and_proposal c a).core.installed ≡ c.installed
done_installed c a = proposed_installed (may_propose_after a && proposes (apply_transition c a).core) (apply_transition c a) ∙ act_installed c a

-- a proposal raises no safe mark
pub proposed_marks : {A : Type 0} (b : Bool) (did : TransitionResult A) (ring : RingId) → mark (with_proposal_if b did).core ring ≡ mark did.core ring
proposed_marks true did ring = refl
proposed_marks false did ring = refl
