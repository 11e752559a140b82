-- No transition raises the safe mark of the installed ring above its front before the step.
use Rattle.std.proofs.Common.{◌≡◌, ℕ, ◌≤◌, max, true, List, [], ◌∷◌, map, filter}
use Rattle.std.proofs.Common.{slice_get, ap, ◌∙◌, sym, subst, arith}
use Rattle.std.specs.Prelude.{◌&&◌, ◌==◌, nat_eq}
use Rattle.std.specs.Cmp.Lexicographic.{pointwise}
use Rattle.std.proofs.lemmas.Bool.{cond_both, and_parts, eqb-true}
use Rattle.ring_base.specs.Rings.{same_ring}
use Rattle.ring_base.specs.Numbers.{greatest}
use Rattle.ring_base.specs.declared.ring_id.RingId.{RingId}
use Rattle.ring_wire.specs.declared.commit.CommitToken.{CommitToken}
use Rattle.ring_core_spec.specs.Tokens.{TokenVisit, MarkRaise, visits_in_ring, mark_from_arus, raised_to, safe_mark, last_aru}
use Rattle.ring_core_spec.specs.Commits.{reports_of, safe_of, is_sound, position_of_hop, is_own, Configuration}
use Rattle.ring_core_spec.specs.State.{Core}
use Rattle.ring_core_spec.specs.Views.{front, mark, own_entry}
use Rattle.ring_core_spec.specs.Visiting.{turn_of}
use Rattle.ring_core_spec.specs.Joining.{proposes}
use Rattle.ring_core_spec.specs.CommitSteps.{takes_second_round}
use Rattle.ring_core_spec.specs.Deciding.{Transition, Ignore, Enqueue, Repeat, Announce, Invite, GiveUp, EnterGather, Agree, MergeJoin}
use Rattle.ring_core_spec.specs.Deciding.{EnterGatherAndAgree, EnterGatherAndMergeJoin, Take, Visit, Fill, Learn}
use Rattle.ring_core_spec.specs.Transitions.{apply_transition, may_propose_after, transition_and_proposal}
use Rattle.ring_srp_transitions.specs.Allowing.{MayApply}
use Rattle.ring_core_spec.proofs.InstalledKept.{done_installed, proposed_marks}
use Rattle.ring_core_spec.proofs.Commits.{none_behind-at, own_stands}

-- A visit: its mark is the lesser of two numbers, of which the earlier was at most the front

newest_mark : {A : Type 0} (a : ℕ) (turns : List (TokenVisit A)) (raised f : ℕ) → max (mark_from_arus (map (λ (v : TokenVisit A). v.forwarded.aru) turns)) raised ≤ f
    → last_aru turns ≤ f → max (mark_from_arus (a ∷ map (λ (v : TokenVisit A). v.forwarded.aru) turns)) raised ≤ f
newest_mark a [] raised f h l = omega arith
newest_mark a (v ∷ turns) raised f h l = omega arith

turn_mark : {A : Type 0} (v : TokenVisit A) (turns : List (TokenVisit A)) (raises : List MarkRaise) (ring : RingId) (f : ℕ) → safe_mark turns raises ring ≤ f
    → last_aru (visits_in_ring ring turns) ≤ f → safe_mark (v ∷ turns) raises ring ≤ f
turn_mark {A} v turns raises ring f h l =
    cond_both (same_ring v.received.ring ring) (v ∷ visits_in_ring ring turns) (visits_in_ring ring turns)
    (λ (vs : List (TokenVisit A)). max (mark_from_arus (map (λ (v : TokenVisit A). v.forwarded.aru) vs)) (raised_to ring raises) ≤ f)
    (λ e. newest_mark v.forwarded.aru (visits_in_ring ring turns) (raised_to ring raises) f h l)
    (λ e. h)

-- A raise: the core's own front has reached its mark

raise_mark : {A : Type 0} (x : MarkRaise) (turns : List (TokenVisit A)) (raises : List MarkRaise) (ring : RingId) (f : ℕ) → safe_mark turns raises ring ≤ f → x.mark ≤ f
    → safe_mark turns (x ∷ raises) ring ≤ f
raise_mark {A} x turns raises ring f h l =
    cond_both (same_ring x.ring ring) (x ∷ filter (λ (x : MarkRaise). same_ring x.ring ring) raises) (filter (λ (x : MarkRaise). same_ring x.ring ring) raises)
    (λ (xs : List MarkRaise). max (mark_from_arus (map (λ (v : TokenVisit A). v.forwarded.aru) (visits_in_ring ring turns))) (greatest (map (λ (x : MarkRaise). x.mark) xs)) ≤ f)
    (λ e. omega arith)
    (λ e. h)

-- the core's own front has reached each mark that a transitional member reports
pub learned_front : {A : Type 0} (c : Core A) (k : CommitToken) → takes_second_round c k ≡ true
    → safe_of (reports_of c.installed.ring k.entries) ≤ front c c.installed.ring
learned_front c k h =
    let own : is_own (own_entry c) (slice_get k.entries (position_of_hop k)) ≡ true =
    (and_parts _ _ (and_parts _ (is_sound c.installed.ring k.entries) h).0).1 in
    let sound : is_sound c.installed.ring k.entries ≡ true = (and_parts _ (is_sound c.installed.ring k.entries) h).1 in
    let (e, at, same) = own_stands (own_entry c) (slice_get k.entries (position_of_hop k)) own in
    let two : (same_ring e.old c.installed.ring && (e.front == front c c.installed.ring)) ≡ true =
    (and_parts _ (e.mark == mark c c.installed.ring) (and_parts _ (pointwise nat_eq e.held (own_entry c).held) same).0).0 in
    let i : safe_of (reports_of c.installed.ring k.entries) ≤ e.front = none_behind-at c.installed.ring (safe_of (reports_of c.installed.ring k.entries)) k.entries
    (position_of_hop k) e sound at (and_parts _ (e.front == front c c.installed.ring) two).0 in
    subst (λ n. safe_of (reports_of c.installed.ring k.entries) ≤ n) (eqb-true _ _ (and_parts (same_ring e.old c.installed.ring) _ two).1) i

-- Each transition

acted_mark : {A : Type 0} (c : Core A) (a : Transition A) → MayApply c a → mark c c.installed.ring ≤ front c c.installed.ring
    → last_aru (visits_in_ring c.installed.ring c.turns) ≤ front c c.installed.ring → mark (apply_transition c a).core c.installed.ring ≤ front c c.installed.ring
acted_mark c Ignore m h l = h
acted_mark c (Enqueue payload) m h l = h
acted_mark c Repeat m h l = h
acted_mark c Announce m h l = h
acted_mark c Invite m h l = h
acted_mark c GiveUp m h l = h
acted_mark c EnterGather m h l = h
acted_mark c (Agree j) m h l = h
acted_mark c (MergeJoin j) m h l = h
acted_mark c (EnterGatherAndAgree j) m h l = h
acted_mark c (EnterGatherAndMergeJoin j) m h l = h
acted_mark c (Take x) m h l = h
acted_mark c (Visit t) m h l = turn_mark (turn_of c t) c.turns c.raises c.installed.ring (front c c.installed.ring) h l
acted_mark c (Fill k) m h l = h
acted_mark c (Learn k) m h l = raise_mark
    (record { ring = c.installed.ring; mark = safe_of (reports_of c.installed.ring k.entries) }) c.turns c.raises c.installed.ring
    (front c c.installed.ring) h (learned_front c k m.passes)

-- nor does the proposal after it, which raises no mark

done_mark : {A : Type 0} (c : Core A) (a : Transition A) → MayApply c a → mark c c.installed.ring ≤ front c c.installed.ring
    → last_aru (visits_in_ring c.installed.ring c.turns) ≤ front c c.installed.ring → mark (transition_and_proposal c a).core (transition_and_proposal c a).core.installed.ring ≤ front c c.installed.ring
done_mark c a m h l =
    let e : mark (transition_and_proposal c a).core (transition_and_proposal c a).core.installed.ring ≡ mark (apply_transition c a).core c.installed.ring =
    ap (λ (x : Configuration). mark (transition_and_proposal c a).core x.ring) (done_installed c a)
    ∙ proposed_marks (may_propose_after a && proposes (apply_transition c a).core) (apply_transition c a) c.installed.ring in
    subst (λ n. n ≤ front c c.installed.ring) (sym e) (acted_mark c a m h l)

-- the same for the code's result
pub may_give : {A : Type 0} (c new : Core A) (a : Transition A) (reached : ℕ) → MayApply c a → new ≡ (transition_and_proposal c a).core
    → reached ≡ front c c.installed.ring → mark c c.installed.ring ≤ reached → last_aru (visits_in_ring c.installed.ring c.turns) ≤ reached
    → mark new new.installed.ring ≤ reached
may_give {A} c new a reached allows e r safe led =
    let bound : mark (transition_and_proposal c a).core (transition_and_proposal c a).core.installed.ring ≤ front c c.installed.ring =
    done_mark c a allows (omega (arith, safe, r)) (omega (arith, led, r)) in
    rw (e, r) bound
