-- The running ring is installed: its part becomes the installed ring's, and the outputs come in several pieces.
use Rattle.std.proofs.Common.{◌≡◌, ℕ, zero, suc, ◌+◌, ◌-◌, ◌<◌, ◌≤◌, Bool, true, false, List, [], ◌∷◌, ◌++◌}
use Rattle.std.proofs.Common.{map, filter, filter_map, Option, Some, None, Result, Ok, Err, refl, ap, ◌∙◌, sym, subst, arith, append_assoc}
use Rattle.std.specs.Prelude.{nat_lt, if◌then◌else◌}
use Rattle.std.specs.Option.{IsSome}
use Rattle.std.specs.Result.{OnOk}
use Rattle.std.specs.List.{AllByRecursion}
use Rattle.std.proofs.lemmas.Bool.{true≢false}
use Rattle.std.proofs.lemmas.Option.{cond_some}
use Rattle.std.proofs.lemmas.List.{map-append}
use Rattle.std.proofs.lemmas.List.Elements.{filter-append, filter_map-append}
use Rattle.ring_base.specs.Numbers.{numbers_from}
use Rattle.ring_base.specs.declared.ring_id.RingId.{RingId}
use Rattle.ring_base.specs.declared.state.State.{State}
use Rattle.ring_base.specs.declared.state.State.TheVariants.{Gather, Commit, Recovery, Operational, Stopped}
use Rattle.ring_base.proofs.Cases.{guarded_none}
use Rattle.ring_base.proofs.Each.{each-filter}
use Rattle.ring_base.proofs.ListPlaces.{numbers-append}
use Rattle.ring_payload.specs.PayloadKinds.{is_user}
use Rattle.ring_wire.specs.declared.message.Message.{Message}
use Rattle.ring_window.specs.Held.{found, of_ring}
use Rattle.ring_window.specs.Windows.{WindowHistory, message_above_mark}
use Rattle.ring_window.proofs.OfRing.{found_of_ring}
use Rattle.ring_token.specs.Histories.{TokenHistory}
use Rattle.ring_join.specs.Gatherers.{Gatherer}
use Rattle.ring_commit.specs.declared.configuration.Configuration.{Configuration}
use Rattle.ring_recover.specs.declared.delivery.Delivery.{Delivery}
use Rattle.ring_recover.specs.Plans.{Plan, safe, gap, known_above_safe, is_known}
use Rattle.ring_recover.specs.Installing.{in_front, is_ready_by, is_ready}
use Rattle.ring_recover.specs.RecoveryState.{RecoveryState as Planned}
use Rattle.ring_recover.proofs.AllRings.{finish_of_ring}
use Rattle.ring_recover.specs.Deliveries.{delivery, finish, transitional_part, past_gap_part, is_from_transitional_member, rest_messages}
use Rattle.ring_recover.proofs.MessagesInFront.{kept_found}
use Rattle.ring_core_spec.specs.declared.out.Out.{Out}
use Rattle.ring_core_spec.specs.declared.out.Out.TheVariants.{Agreed, Trans, Rest, Regular}
use Rattle.ring_core_spec.specs.State.{Core, floor}
use Rattle.ring_core_spec.specs.Views.{front, mark, plan}
use Rattle.ring_core_spec.specs.Giving.{may_install, installs_in, ready_then_complete, install, with_installation_if, user_messages_between, all_agreed, safe_from, delivered_from}
use Rattle.ring_srp_transitions.specs.RunningCores.{window_of, Recovers, IsRecovering, IsRunningCore}
use Rattle.ring_srp_state.specs.declared.recovery_state.RecoveryState.{RecoveryState}
use Rattle.ring_srp_transitions.specs.Installs.{change_outputs, all_installation_outputs}
use Rattle.ring_srp_state.specs.Rests.{rest_of}
use Rattle.ring_core_spec.proofs.States.{installs_recovering}
use Rattle.ring_srp_transitions.proofs.Held.{recovering_some}
use Rattle.ring_srp_transitions.proofs.KeptByTransitions.{part_as, below_wider, bound_short}

-- a ring is installed only in Recovery

pub due_in : {A : Type 0} (c : Core A) → may_install c ≡ true → c.state ≡ Recovery
due_in c h = installs_recovering c.state c h

-- and nothing is in any other state
due_not : {A : Type 0} (s : State) (c : Core A) → (s ≡ Recovery → ⊥) → installs_in s c ≡ false
due_not Recovery c f = absurd (f refl)
due_not Gather c f = refl
due_not Commit c f = refl
due_not Operational c f = refl
due_not Stopped c f = refl

not_due_in : {A : Type 0} (c : Core A) → (c.state ≡ Recovery → ⊥) → may_install c ≡ false
not_due_in c f = due_not c.state c f

-- the state of Recovery exists
some_when : {A : Type 0} (c : Core A) (o : Option (RecoveryState A)) → IsRecovering c o → IsSome o
some_when c None f = absurd f
some_when c (Some r) f = refl

pub some_in : {A : Type 0} (c : Core A) (o : Option (RecoveryState A)) → may_install c ≡ true → (c.state ≡ Recovery → IsRecovering c o) → IsSome o
some_in c o due f = some_when c o (f (due_in c due))

-- the state of Recovery decides whether the core may install
module _ {A : Type 0} (c : Core A) (r : RecoveryState A) (f : Recovers c r) (e : c.state ≡ Recovery) (ready : Bool) (n : ℕ)
    (is : ready ≡ is_ready_by r.ends c.running.members n) (n_is : n ≡ r.part.window.mark) where
  ready_now : ready ≡ is_ready c.held c.running.ring c.running.members (mark c c.running.ring)
  ready_now =
      is ∙ ap (λ (xs : List (Message A)). is_ready_by xs c.running.members n) f.ends_is
      ∙ ap (is_ready_by (in_front c.held c.running.ring) c.running.members) (n_is ∙ ap (λ (x : WindowHistory A). x.mark) f.part.window_is)

  due_by : may_install c ≡ ready_then_complete ready c
  due_by = ap (λ (s : State). installs_in s c) e ∙ ap (λ (b : Bool). ready_then_complete b c) (sym ready_now)

  pub not_ready : ready ≡ false → None ≡ (if may_install c then Some (delivery (plan c) c.held) else None)
  not_ready h = ap (λ (b : Bool). if b then Some (delivery (plan c) c.held) else None) (sym (due_by ∙ ap (λ (b : Bool). ready_then_complete b c) h))

  pub all_ready : ready ≡ true → (window : WindowHistory A) → window ≡ window_of c c.installed.ring
      → finish r.plan.plan window.held ≡ (if may_install c then Some (delivery (plan c) c.held) else None)
  all_ready h window w =
      let same : r.plan.plan ≡ plan c = ap (λ (x : Planned A). x.plan) f.plan_is in
      let seen : window.held ≡ of_ring c.installed.ring c.held = ap (λ (x : WindowHistory A). x.held) w in
      ap (λ (p : Plan). finish p window.held) same ∙ ap (finish (plan c)) seen ∙ finish_of_ring (plan c) c.held
      ∙ ap (λ (b : Bool). if b then Some (delivery (plan c) c.held) else None) (sym (due_by ∙ ap (λ (b : Bool). ready_then_complete b c) h))

-- the deliveries that the code computes for the old ring
abbrev pub told : {A : Type 0} → Core A → Option Delivery
told c = if may_install c then Some (delivery (plan c) c.held) else None

pub told_none : {A : Type 0} (c : Core A) → (c.state ≡ Recovery → ⊥) → None ≡ told c
told_none c f = ap (λ (b : Bool). if b then Some (delivery (plan c) c.held) else None) (sym (not_due_in c f))

-- where the code returns deliveries, a ring is due to be installed, and they are the right ones
pub told_some : {A : Type 0} (c : Core A) (d : Delivery) → Some d ≡ told c → (may_install c ≡ true) × (d ≡ delivery (plan c) c.held)
told_some c d h = (let is = cond_some (may_install c) (delivery (plan c) c.held) d (sym h) in (is.0, sym is.1))

-- where it returns none, no ring is due
pub told_nothing : {A : Type 0} (c : Core A) → None ≡ told c → may_install c ≡ false
told_nothing c h = guarded_none (may_install c) (delivery (plan c) c.held) (sym h)

-- a state differs from any other

operational_not_gather : Operational ≡ Gather → ⊥
operational_not_gather e = (let q : Operational ≡ Gather = e in cc)

operational_not_recovery : Operational ≡ Recovery → ⊥
operational_not_recovery e = (let q : Operational ≡ Recovery = e in cc)

-- the part of the running ring becomes that of the installed one
pub into_operational : {A : Type 0} {c : Core A} {gather : Gatherer} {window : WindowHistory A} {visit : TokenHistory A} {recovery recovery' : Option (RecoveryState A)}
    {r : RecoveryState A} {installs : List Configuration} → IsRunningCore c gather window visit recovery → recovery ≡ Some r → c.state ≡ Recovery → recovery' ≡ None
    → IsRunningCore (record c { state = Operational; installed = c.running; installs = installs }) gather r.part.window r.part.visit recovery'
into_operational {c} {recovery} {r} m there is none =
    let now : Recovers c r = recovering_some c recovery r there (m.recovery_state is) in
    record {
      runs = refl;
      gather_me = m.gather_me;
      gather_floor = λ q. absurd (operational_not_gather q);
      member = m.member;
      kept = part_as now.part;
      below = below_wider m.below (bound_short c.state (floor c));
      older = omega arith;
      apart = λ q. absurd (true≢false (sym q));
      same = λ q. refl;
      recovery_state = λ q. absurd (operational_not_recovery q);
      over = λ q. none;
    }

-- The outputs of the new ring

-- the user messages up to a number, and those after it
pub users_parts : {A : Type 0} (c : Core A) (ring : RingId) (a b : ℕ) → a ≤ b → user_messages_between c ring 0 a ++ user_messages_between c ring a b ≡ user_messages_between c ring 0 b
users_parts {A} c ring a b l =
    let some = λ (ns : List ℕ). filter (λ (x : Message A). is_user x.payload) (filter_map (found c.held ring) ns) in
    let first = numbers_from (0 + 1) (a - 0) in
    let last = numbers_from (a + 1) (b - a) in
    let e : (a - 0) + (b - a) ≡ b - 0 = omega arith in
    let d : (0 + 1) + (a - 0) ≡ a + 1 = omega arith in
    let row : first ++ last ≡ numbers_from (0 + 1) (b - 0) =
    ap (λ k. first ++ numbers_from k (b - a)) (sym d) ∙ numbers-append (0 + 1) (a - 0) (b - a) ∙ ap (numbers_from (0 + 1)) e in
    sym (filter-append (λ (x : Message A). is_user x.payload) (filter_map (found c.held ring) first) (filter_map (found c.held ring) last))
    ∙ ap (filter (λ (x : Message A). is_user x.payload)) (sym (filter_map-append (found c.held ring) first last))
    ∙ ap some row

-- the deferred messages are agreed first, then those after them
pub all_given : {A : Type 0} (c : Core A) (ring : RingId) (most : ℕ) (deferred : List (Message A)) → deferred ≡ user_messages_between c ring 0 most → most ≤ front c ring
    → map (λ x. Agreed ring x.number x) deferred ++ delivered_from c ring most 0 ≡ delivered_from c ring 0 0
all_given {A} c ring most deferred e l =
    let out = λ (x : Message A). Agreed ring x.number x in
    let later = user_messages_between c ring most (front c ring) in
    sym (append_assoc (map out deferred) (map out later) (safe_from c ring 0))
    ∙ ap (λ (xs : List (Out A)). xs ++ safe_from c ring 0) (sym (map-append out deferred later)
    ∙ ap (λ (xs : List (Message A)). map out (xs ++ later)) e
    ∙ ap (map out) (users_parts c ring most (front c ring) l))

-- The outputs of the old ring

-- a window keeps the messages above its mark
kept_all : {A : Type 0} (w : WindowHistory A) (ns : List ℕ) → AllByRecursion (λ n. w.mark < n) ns → filter_map (message_above_mark w) ns ≡ filter_map (found w.held w.ring) ns
kept_all w [] h = refl
kept_all w (n ∷ ns) h = rw (kept_found w n h.0, kept_all w ns h.1) refl

row_above : (b first count : ℕ) → b < first → AllByRecursion (λ n. b < n) (numbers_from first count)
row_above b first zero l = tt
row_above b first (suc count) l = (l, row_above b (suc first) count (omega arith))

found_all : {A : Type 0} (held : List (Message A)) (ring : RingId) (ns : List ℕ)
    → filter_map (found (of_ring ring held) ring) ns ≡ filter_map (found held ring) ns
found_all held ring [] = refl
found_all held ring (n ∷ ns) = rw (found_of_ring held ring n, found_all held ring ns) refl

-- the delivered numbers are above the plan's safe mark
known_above : (p : Plan) (b : ℕ) → b ≤ safe p → AllByRecursion (λ n. b < n) (known_above_safe p)
known_above p b l = each-filter (λ n. b < n) (is_known p) (numbers_from (safe p + 1) 256) (row_above b (safe p + 1) 256 (omega arith))

-- the two parts, from the window of the installed ring
pub rests_by : {A : Type 0} (c : Core A) (w : WindowHistory A) → w ≡ window_of c c.installed.ring → mark c c.installed.ring ≤ safe (plan c)
    → filter_map (message_above_mark w) (transitional_part (plan c)) ++ filter_map (message_above_mark w) (past_gap_part (plan c) c.held) ≡ filter_map (found c.held c.installed.ring)
    (transitional_part (plan c) ++ past_gap_part (plan c) c.held)
rests_by {A} c w e l =
    let p = plan c in
    let old = c.installed.ring in
    let v = window_of c old in
    let all = known_above p (mark c old) l in
    let a = each-filter (λ n. mark c old < n) (λ n. nat_lt n (gap p)) (known_above_safe p) all in
    let b = each-filter (λ n. mark c old < n) (is_from_transitional_member p c.held) (filter (nat_lt (gap p)) (known_above_safe p)) (each-filter (λ n. mark c old < n)
    (nat_lt (gap p)) (known_above_safe p) all) in
    let one = kept_all v (transitional_part p) a ∙ found_all c.held old (transitional_part p) in
    let two = kept_all v (past_gap_part p c.held) b ∙ found_all c.held old (past_gap_part p c.held) in
    ap (λ (x : WindowHistory A). filter_map (message_above_mark x) (transitional_part p) ++ filter_map (message_above_mark x) (past_gap_part p c.held)) e
    ∙ ap (λ (xs : List (Message A)). xs ++ filter_map (message_above_mark v) (past_gap_part p c.held)) one
    ∙ ap (λ (xs : List (Message A)). filter_map (found c.held old) (transitional_part p) ++ xs) two
    ∙ sym (filter_map-append (found c.held old) (transitional_part p) (past_gap_part p c.held))

-- so they make up the rest of the old ring
pub rest_given : {A : Type 0} (c : Core A) (w : WindowHistory A) → w ≡ window_of c c.installed.ring → mark c c.installed.ring ≤ safe (plan c)
    → rest_of w (transitional_part (plan c)) ++ rest_of w (past_gap_part (plan c) c.held) ≡ map (λ (x : Message A). Rest x.ring x.number x) (rest_messages
    (plan c) c.held)
rest_given {A} c w e l =
    let out = λ (x : Message A). Rest x.ring x.number x in
    let users_only = λ (x : Message A). is_user x.payload in
    let a = filter_map (message_above_mark w) (transitional_part (plan c)) in
    let b = filter_map (message_above_mark w) (past_gap_part (plan c) c.held) in
    sym (map-append out (filter users_only a) (filter users_only b))
    ∙ ap (map out) (sym (filter-append users_only a b))
    ∙ ap (λ (xs : List (Message A)). map out (filter users_only xs)) (rests_by c w e l)

-- the two configurations with the deliveries between them
pub first_given : {A : Type 0} (c : Core A) (outs : List (Out A)) (w : WindowHistory A) (transitional_members : ℕ) → transitional_members ≡ (plan c).transitional_members → w ≡ window_of c c.installed.ring
    → mark c c.installed.ring ≤ safe (plan c)
    → (((outs ++ Trans c.installed.ring c.running.ring transitional_members ∷ []) ++ rest_of w (transitional_part (plan c)))
    ++ rest_of w (past_gap_part (plan c) c.held)) ++ Regular c.running.ring c.running.members ∷ [] ≡ outs ++ change_outputs c
unfolding change_outputs
first_given {A} c outs w transitional_members m e l =
    let first : Out A = Trans c.installed.ring c.running.ring transitional_members in
    let last : Out A = Regular c.running.ring c.running.members in
    let a = rest_of w (transitional_part (plan c)) in
    let b = rest_of w (past_gap_part (plan c) c.held) in
    let rest = map (λ (x : Message A). Rest x.ring x.number x) (rest_messages (plan c) c.held) in
    let flat : (((outs ++ first ∷ []) ++ a) ++ b) ++ last ∷ [] ≡ outs ++ first ∷ ((a ++ b) ++ last ∷ []) = simp append_assoc in
    flat ∙ ap (λ (xs : List (Out A)). outs ++ first ∷ (xs ++ last ∷ [])) (rest_given c w e l)
    ∙ ap (λ n. outs ++ Trans c.installed.ring c.running.ring n ∷ (rest ++ last ∷ [])) m

-- and the new ring's outputs after them
pub then_given : {A : Type 0} (c : Core A) (outs : List (Out A)) (most : ℕ) (deferred : List (Message A)) → deferred ≡ user_messages_between c c.running.ring 0 most
    → most ≤ front c c.running.ring
    → ((outs ++ change_outputs c) ++ all_agreed c.running.ring deferred) ++ delivered_from c c.running.ring most 0 ≡ outs ++ all_installation_outputs c
unfolding change_outputs all_installation_outputs
then_given {A} c outs most deferred e l =
    let first : Out A = Trans c.installed.ring c.running.ring (plan c).transitional_members in
    let last : Out A = Regular c.running.ring c.running.members in
    let rest = map (λ (x : Message A). Rest x.ring x.number x) (rest_messages (plan c) c.held) in
    let a = all_agreed c.running.ring deferred in
    let b = delivered_from c c.running.ring most 0 in
    let flat : ((outs ++ first ∷ (rest ++ last ∷ [])) ++ a) ++ b ≡ outs ++ first ∷ (rest ++ last ∷ (a ++ b)) = simp append_assoc in
    flat ∙ ap (λ (xs : List (Out A)). outs ++ first ∷ (rest ++ last ∷ xs)) (all_given c c.running.ring most deferred e l)

-- the same for the code's outputs, call by call
pub first_by : {A : Type 0} (c : Core A) (outs one two three all : List (Out A)) (w : WindowHistory A) (transitional_members : ℕ) (d : Delivery)
    → one ≡ outs ++ Trans c.installed.ring c.running.ring transitional_members ∷ [] → two ≡ one ++ rest_of w d.transitional → three ≡ two ++ rest_of w d.past_gap
    → all ≡ three ++ Regular c.running.ring c.running.members ∷ []
    → d ≡ delivery (plan c) c.held → transitional_members ≡ (plan c).transitional_members → w ≡ window_of c c.installed.ring → mark c c.installed.ring ≤ safe (plan c) → all ≡ outs
    ++ change_outputs c
first_by {A} c outs one two three all w transitional_members d a b e f is m there l =
    let last : Out A = Regular c.running.ring c.running.members in
    let first = outs ++ Trans c.installed.ring c.running.ring transitional_members ∷ [] in
    f ∙ ap (λ (xs : List (Out A)). xs ++ last ∷ []) (e ∙ ap (λ (xs : List (Out A)). xs ++ rest_of w d.past_gap) (b ∙ ap (λ (xs : List (Out A)). xs
    ++ rest_of w d.transitional) a))
    ∙ ap (λ (x : Delivery). ((first ++ rest_of w x.transitional) ++ rest_of w x.past_gap) ++ last ∷ []) is
    ∙ first_given c outs w transitional_members m there l

pub then_by : {A : Type 0} (c n : Core A) (outs one two all : List (Out A)) (ring : RingId) (most : ℕ) (deferred : List (Message A))
    → one ≡ outs ++ change_outputs c → two ≡ one ++ all_agreed ring deferred → all ≡ two ++ delivered_from n ring most 0
    → n ≡ install c → ring ≡ n.installed.ring → deferred ≡ user_messages_between c c.running.ring 0 most → most ≤ front c c.running.ring → all ≡ outs ++ all_installation_outputs c
then_by {A} c n outs one two all ring most deferred a b d is r e l =
    let same : ring ≡ c.running.ring = r ∙ ap (λ (x : Core A). x.installed.ring) is in
    d ∙ ap (λ (xs : List (Out A)). xs ++ delivered_from n ring most 0) (b ∙ ap (λ (xs : List (Out A)). xs ++ all_agreed ring deferred) a)
    ∙ ap (λ (x : Core A). ((outs ++ change_outputs c) ++ all_agreed ring deferred) ++ delivered_from x ring most 0) is
    ∙ ap (λ (x : RingId). ((outs ++ change_outputs c) ++ all_agreed x deferred) ++ delivered_from c x most 0) same
    ∙ then_given c outs most deferred e l

-- the same for a result that may be an error
pub on_ok : {T E : Type 0} {P : Type 0} (r : Result T E) → P → OnOk r P
on_ok (Ok x) p = p
on_ok (Err e) p = tt

-- all outputs of an installation, where one is due
pub settled_due : {A T E : Type 0} (c : Core A) (r : Result T E) (outs all : List (Out A)) → may_install c ≡ true → OnOk r (all ≡ outs ++ all_installation_outputs c)
    → OnOk r (all ≡ outs ++ (with_installation_if (may_install c) c []).outs)
unfolding all_installation_outputs
settled_due c r outs all due h = subst (λ (b : Bool). OnOk r (all ≡ outs ++ (with_installation_if b c []).outs)) (sym due) h
