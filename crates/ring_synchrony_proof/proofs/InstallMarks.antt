-- A step that installs a ring raises no safe mark of the ring that it leaves.

-- The plan alone raises that mark, and nothing is held of the running ring before it: so no ring is ready in the step that learns
-- its plan.
use Rattle.std.proofs.Common.{◌≡◌, ◌<◌, Bool, true, false, ◌&&◌, inr, refl, ap, sym, ◌∙◌, subst, arith}
use Rattle.std.proofs.lemmas.Bool.{false≢true}
use Rattle.ring_base.specs.Processors.{IsProc, IsMember, elements}
use Rattle.ring_base.specs.Elements.{elements_members}
use Rattle.ring_base.specs.declared.ring_id.RingId.{RingId}
use Rattle.ring_wire.specs.declared.commit.CommitToken.{CommitToken}
use Rattle.ring_wire.specs.declared.frame.Frame.{Frame}
use Rattle.ring_wire.specs.declared.message.Message.{Message}
use Rattle.ring_core_spec.specs.Commits.{Configuration}
use Rattle.ring_core_spec.specs.Recoveries.{is_ready}
use Rattle.ring_core_spec.specs.declared.input.Input.{Input}
use Rattle.ring_core_spec.specs.declared.input.Input.TheVariants.{Frame as FrameInput}
use Rattle.ring_core_spec.specs.Deciding.{decide}
use Rattle.ring_core_spec.specs.Giving.{may_install}
use Rattle.ring_core_spec.specs.Joining.{proposes}
use Rattle.ring_core_spec.specs.State.{Core, TransitionResult, floor}
use Rattle.ring_core_spec.specs.Transitions.{may_propose_after, with_proposal_if, transition_and_proposal}
use Rattle.ring_core_spec.specs.Views.{mark}
use Rattle.ring_core_proof.specs.CoreInvariants.{RingsFit, FactsFit}
use Rattle.ring_core_proof.specs.FactWords.{IsIn}
use Rattle.ring_core_proof.specs.Moves.{Move, Idles, Enters, Learns, Visits, Takes, Installs, core_after_move, move_result, MayMove}
use Rattle.ring_core_proof.proofs.Causes.{caused}
use Rattle.ring_core_proof.proofs.Guards.{guarded}
use Rattle.ring_core_proof.proofs.InLists.{in-each, contains-in}
use Rattle.ring_core_proof.proofs.OwnRings.{newest_in}
use Rattle.ring_core_proof.proofs.StepsAreMoves.{move_of, acted, asked_by, may_act, may_installs}
use Rattle.ring_synchrony_proof.proofs.Keeps.{IsStill, visited_same, still_of}
use Rattle.ring_synchrony_proof.proofs.Unwrapped.{ready_ends}

-- Each move but an installation

module _ {A : Type 0} (received : Frame A → Type 0) (c : Core A) (proc : IsProc c.me) (rings : RingsFit c)
    (facts : FactsFit c) where
  -- a ring isn't ready as its plan is learned
  learned_not : (k : CommitToken) → MayMove received c (Learns k) →
      is_ready (core_after_move c (Learns k)).held c.running.ring c.running.members (mark (core_after_move c (Learns k)) c.running.ring) ≡ true → ⊥
  learned_not k h t =
      let member = in-each (λ (p : Configuration). IsMember p.members c.me) c.running c.rings (rings.member proc)
      (newest_in c.running c.rings rings.runs) in
      let among = (elements_members c.running.members c.me).1 (proc, member) in
      let there : IsIn c.me (elements c.running.members) =
      contains-in (elements c.running.members) among.0 c.me among.1 among.2 in
      let end = ready_ends (core_after_move c (Learns k)) t c.me there in
      let below : (end.message).ring.seq < floor c =
      in-each (λ (x : Message A). x.ring.seq < floor c) end.message c.held ((facts.unknown h.state).held) end.held in
      let same : (end.message).ring.seq ≡ floor c = ap (λ (r : RingId). r.seq) end.ring_is in
      omega (arith, below, same)

  moved_marks : (m : Move A) → MayMove received c m → IsStill m → may_install (core_after_move c m) ≡ true →
      mark (core_after_move c m) c.installed.ring ≡ mark c c.installed.ring
  moved_marks (Idles state gathering last_sent queue sends) h still t = refl
  moved_marks (Enters k) h still t = absurd (false≢true t)
  moved_marks (Learns k) h still t = absurd (learned_not k h (may_installs (core_after_move c (Learns k)) t).ready)
  moved_marks (Visits s fresh requests again queue) h still t =
      let now = may_installs (core_after_move c (Visits s fresh requests again queue)) t in
      let older : c.installed.ring.seq < floor c = rings.changing (inr now.state) in
      (visited_same c s fresh requests again queue c.installed.ring
      (λ e.
      let same : c.installed.ring.seq ≡ floor c = ap (λ (r : RingId). r.seq) (sym e ∙ h.ring) in
      omega (arith, older, same))).mark_is
  moved_marks (Takes x) h still t = refl
  moved_marks Installs h still t = absurd still

-- A proposal is followed by no installation

then_marks : {A : Type 0} → (b : Bool) (c : Core A) (m : Move A) →
    (may_install (core_after_move c m) ≡ true → mark (core_after_move c m) c.installed.ring ≡ mark c c.installed.ring) →
    may_install (with_proposal_if b (move_result c m)).core ≡ true →
    mark (with_proposal_if b (move_result c m)).core c.installed.ring ≡ mark c c.installed.ring
then_marks false c m h t = h t
then_marks true c m h t = absurd (false≢true t)

-- A step

pub install_marks : {A : Type 0} → (c : Core A) (input : Input A) → IsProc c.me → RingsFit c → FactsFit c →
    may_install (transition_and_proposal c (decide c input)).core ≡ true →
    mark (transition_and_proposal c (decide c input)).core c.installed.ring ≡ mark c c.installed.ring
install_marks {A} c input proc rings facts =
    let a = decide c input in
    let m = move_of c a in
    let received : Frame A → Type 0 = λ frame. input ≡ FrameInput frame in
    let may : MayMove received c m = may_act c input a (guarded c input) (caused c input)
    (asked_by c input a refl (caused c input)) in
    let Keeps : TransitionResult A → Type 0 =
    λ d. may_install d.core ≡ true → mark d.core c.installed.ring ≡ mark c c.installed.ring in
    subst (λ (d : TransitionResult A). Keeps (with_proposal_if (may_propose_after a && proposes d.core) d)) (sym (acted c a))
    (then_marks (may_propose_after a && proposes (core_after_move c m)) c m (moved_marks received c proc rings facts m may (still_of c a)))
