-- The conditions of each transition. The choice of a transition has tested them; applying it tests none again.
use Rattle.std.specs.Prelude.{◌≡◌, ◌≤◌, true}
use Rattle.std.specs.List.Sorted.{IsStrictlyIncreasing}
use Rattle.ring_base.specs.Numbers.{max_number}
use Rattle.ring_base.specs.declared.state.State.TheVariants.{Gather, Commit}
use Rattle.ring_wire.specs.Commits.{CommitFits}
use Rattle.ring_wire.specs.Frames.{FrameFits}
use Rattle.ring_wire.specs.declared.commit.CommitToken.{CommitToken}
use Rattle.ring_wire.specs.declared.token.Token.{Token}
use Rattle.ring_join.specs.Gathering.{has_same_sets}
use Rattle.ring_commit.specs.Outcomes.{is_at}
use Rattle.ring_core_spec.specs.declared.input.Input.{Input}
use Rattle.ring_core_spec.specs.declared.input.Input.TheVariants.{Frame as FrameInput, Timeout, Send}
use Rattle.ring_core_spec.specs.State.{Core}
use Rattle.ring_core_spec.specs.Visiting.{accepts}
use Rattle.ring_core_spec.specs.Joining.{gather_entered}
use Rattle.ring_core_spec.specs.CommitSteps.{takes_first_round, takes_second_round}
use Rattle.ring_core_spec.specs.Deciding.{Transition, Ignore, Enqueue, Repeat, Announce, Invite, GiveUp, EnterGather, Agree, MergeJoin}
use Rattle.ring_core_spec.specs.Deciding.{EnterGatherAndAgree, EnterGatherAndMergeJoin, Take, Visit, Fill, Learn, is_taken}
use Rattle.ring_srp_transitions.specs.RunningCores.{is_running}

-- An input whose frame is within the limits of its format, as every decoded frame is.
abbrev pub InputFits : {A : Type 0} → Input A → Type 0
InputFits (FrameInput frame) = FrameFits frame
InputFits (Timeout kind) = Unit {0}
InputFits (Send payload) = Unit {0}

-- A token that a visit may take: its `seq` is at most `MAX`, and its requests are strictly ascending.
pub record TokenGoes (t : Token) : Type 0 where
  pub seq : t.seq ≤ max_number
  pub ascending : IsStrictlyIncreasing t.requests

-- A visit is allowed: a ring runs, and the token is accepted and may be visited.
pub record VisitAllowed {A : Type 0} (c : Core A) (t : Token) : Type 0 where
  pub runs : is_running c.state ≡ true
  pub passes : accepts c t ≡ true
  pub goes : TokenGoes t

-- The first round of a commit token is allowed: the core is in Gather, at the position of the hop, and takes it.
pub record FillAllowed {A : Type 0} (c : Core A) (k : CommitToken) : Type 0 where
  pub state : c.state ≡ Gather
  pub here : is_at c.me k ≡ true
  pub passes : takes_first_round c k ≡ true
  pub fits : CommitFits k

-- The second round is allowed: the core is in Commit, at the position of the hop, and takes it.
pub record LearnAllowed {A : Type 0} (c : Core A) (k : CommitToken) : Type 0 where
  pub state : c.state ≡ Commit
  pub here : is_at c.me k ≡ true
  pub passes : takes_second_round c k ≡ true
  pub fits : CommitFits k

-- The conditions under which a transition may be applied to a core.
abbrev pub MayApply : {A : Type 0} → Core A → Transition A → Type 0
MayApply c Ignore = Unit {0}
MayApply c (Enqueue payload) = Unit {0}
MayApply c Repeat = Unit {0}
MayApply c Announce = c.state ≡ Gather
MayApply c Invite = Unit {0}
MayApply c GiveUp = c.state ≡ Gather
MayApply c EnterGather = Unit {0}
MayApply c (Agree j) = (c.state ≡ Gather) × (has_same_sets c.gathering j ≡ true)
MayApply c (MergeJoin j) = c.state ≡ Gather
MayApply c (EnterGatherAndAgree j) = has_same_sets (gather_entered c).gathering j ≡ true
MayApply c (EnterGatherAndMergeJoin j) = Unit {0}
MayApply c (Take x) = is_taken c x ≡ true
MayApply c (Visit t) = VisitAllowed c t
MayApply c (Fill k) = FillAllowed c k
MayApply c (Learn k) = LearnAllowed c k
