-- The outputs of a step lead from the life that a core's facts make up to the one that they make up after it.
use Rattle.std.proofs.Common.{◌≡◌, ℕ, zero, suc, ◌+◌, ◌-◌, ◌<◌, ◌≤◌, Bool, true, false, ◌&&◌, ◌==◌, List, [], ◌∷◌, ◌++◌}
use Rattle.std.proofs.Common.{map, Option, refl, ap, sym, ◌∙◌, subst, arith, append_assoc, append-nil}
use Rattle.std.specs.Prelude.{filter, filter_map, nat_lt}
use Rattle.std.specs.List.{AllByRecursion as Each, cons_option}
use Rattle.std.proofs.Math.Path.{fun_ext}
use Rattle.std.proofs.lemmas.Bool.{cond_both, and_parts, and_from, ltb-false, eq-eqb}
use Rattle.std.proofs.lemmas.List.Elements.{filter-append, filter_map-append}
use Rattle.ring_base.specs.Numbers.{numbers_from}
use Rattle.ring_base.specs.Rings.{same_ring}
use Rattle.ring_base.specs.declared.ring_id.RingId.{RingId}
use Rattle.ring_base.proofs.Each.{each-filter, each-filter_map}
use Rattle.ring_base.proofs.ListPlaces.{numbers-append}
use Rattle.ring_payload.specs.PayloadKinds.{is_user}
use Rattle.ring_wire.specs.declared.entries.CommitEntry.{CommitEntry}
use Rattle.ring_wire.specs.declared.frame.Frame.{Frame}
use Rattle.ring_wire.specs.declared.message.Message.{Message}
use Rattle.ring_core_spec.specs.Windows.{is_numbered, found}
use Rattle.ring_core_spec.proofs.Windows.{front_is}
use Rattle.ring_base.proofs.SameRing.{ring_same, same-self}
use Rattle.ring_core_spec.specs.Commits.{Configuration}
use Rattle.ring_core_spec.specs.Recoveries.{Plan, plan_of, gap, known_above_safe, is_from_transitional_member_if_there, transitional_part, past_gap_part, rest_messages}
use Rattle.ring_core_spec.specs.declared.input.Input.{Input}
use Rattle.ring_core_spec.specs.declared.out.Out.{Out}
use Rattle.ring_core_spec.specs.declared.out.Out.TheVariants.{Send as SendOut, Agreed, Safe, Trans, Rest, Regular}
use Rattle.ring_core_spec.specs.State.{Core, OutgoingFrame, TransitionResult}
use Rattle.ring_core_spec.specs.Views.{front, mark, plan, entries_for}
use Rattle.ring_core_spec.specs.Giving.{may_install, install, sends_with_receivers, sent, user_messages_between, agreed_from, safe_from, delivered_from, agreed_and_safe_of_step, installation_outputs}
use Rattle.ring_core_spec.specs.Giving.{with_installation_if}
use Rattle.ring_core_spec.specs.Joining.{proposes}
use Rattle.ring_core_spec.specs.Deciding.{decide}
use Rattle.ring_core_spec.specs.Transitions.{transition_and_proposal, may_propose_after, with_proposal_if}
use Rattle.ring_core_spec.specs.Stepping.{ring_step}
use Rattle.ring_core_spec.specs.declared.input.Input.TheVariants.{Frame as FrameInput}
use Rattle.ring_core_proof.specs.LawConditions.{IsFalling}
use Rattle.ring_core_proof.specs.Lives.{Stage, InRegular, InTransitional, Life, is_output_in_stage, life_after_output, life_after, are_outputs_in_stages}
use Rattle.ring_core_proof.specs.Moves.{Move, Enters, core_after_move, move_result, MayMove}
use Rattle.ring_core_proof.proofs.Guards.{guarded}
use Rattle.ring_core_proof.proofs.Causes.{caused}
use Rattle.ring_core_proof.proofs.StepsAreMoves.{move_of, acted, asked_by, may_act, may_propose, proposed_token}
use Rattle.ring_core_proof.proofs.InLists.{each-in, find-in}
use Rattle.ring_synchrony_proof.specs.LifeOfCore.{regular_stage, plan_into, between, earlier_stages, core_life_in, core_life_through, core_life}
use Rattle.ring_synchrony_proof.proofs.Ordered.{Ordered, moved_ordered}
use Rattle.ring_synchrony_proof.proofs.Keeps.{IsSameOf, Keeps, moved_keeps, keeps_then, still_of}

-- Outputs lead from one life to another, each while the configuration that it belongs to is the newest

pub record Tells {A : Type 0} (l : Life A) (outs : List (Out A)) (k : Life A) : Type 0 where
  pub after : life_after l outs ≡ k
  pub belong : are_outputs_in_stages l outs ≡ true

pub tells_none : {A : Type 0} → (l : Life A) → Tells l [] l
tells_none l = record { after = refl; belong = refl }

pub tells_one : {A : Type 0} → (l k : Life A) (o : Out A) (outs : List (Out A)) → is_output_in_stage o l.newest ≡ true → Tells (life_after_output l o) outs k → Tells l (o ∷ outs) k
tells_one l k o outs b t = record { after = t.after; belong = rw (b, t.belong) refl }

pub tells_then : {A : Type 0} → (l k j : Life A) (xs ys : List (Out A)) → Tells l xs k → Tells k ys j → Tells l (xs ++ ys) j
tells_then {A} l k j [] ys t u = subst (λ (x : Life A). Tells x ys j) (sym t.after) u
tells_then {A} l k j (o ∷ xs) ys t u =
    let p = and_parts (is_output_in_stage o l.newest) (are_outputs_in_stages (life_after_output l o) xs) t.belong in
    tells_one l j o (xs ++ ys) p.0 (tells_then (life_after_output l o) k j xs ys (record { after = t.after; belong = p.1 }) u)

tells_to : {A : Type 0} → (l k j : Life A) (outs : List (Out A)) → k ≡ j → Tells l outs k → Tells l outs j
tells_to {A} l k j outs e t = subst (λ (x : Life A). Tells l outs x) e t

abbrev living : {A : Type 0} → Stage A → List (Stage A) → Life A
living newest earlier = record { newest = newest; earlier = earlier }

-- Each kind of output

tells_sends : {A : Type 0} → (l : Life A) (sends : List (OutgoingFrame A)) → Tells l (map (λ (s : OutgoingFrame A). SendOut s.to s.frame) sends) l
tells_sends l [] = tells_none l
tells_sends l (s ∷ sends) = tells_one l l (SendOut s.to s.frame) _ refl (tells_sends l sends)

tells_agreed : {A : Type 0} → (at : Configuration) (safe : ℕ) (earlier : List (Stage A)) (xs ys : List (Message A)) →
    Tells (living (InRegular at xs safe) earlier) (map (λ (x : Message A). Agreed at.ring x.number x) ys) (living (InRegular at (xs ++ ys) safe) earlier)
tells_agreed {A} at safe earlier xs [] = tells_to _ _ _ []
    (ap (λ (zs : List (Message A)). living (InRegular at zs safe) earlier) (sym (append-nil xs))) (tells_none _)
tells_agreed {A} at safe earlier xs (y ∷ ys) =
    tells_one _ _ (Agreed at.ring y.number y) _ (and_from (same_ring at.ring at.ring) (y.number == y.number) (same-self at.ring) (eq-eqb y.number y.number refl))
    (tells_to _ _ _ _ (ap (λ (zs : List (Message A)). living (InRegular at zs safe) earlier)
    (append_assoc xs (y ∷ []) ys)) (tells_agreed at safe earlier (xs ++ y ∷ []) ys))

tells_safe : {A : Type 0} → (d : Core A) (at : Configuration) (m : ℕ) (earlier : List (Stage A)) (xs : List (Message A)) → m ≤ mark d at.ring →
    Tells (living (InRegular at xs m) earlier) (safe_from d at.ring m) (living (InRegular at xs (mark d at.ring)) earlier)
tells_safe {A} d at m earlier xs low =
    cond_both (nat_lt m (mark d at.ring)) (Safe at.ring (mark d at.ring) ∷ []) []
    (λ (outs : List (Out A)). Tells (living (InRegular at xs m) earlier) outs
    (living (InRegular at xs (mark d at.ring)) earlier))
    (λ e. tells_one _ _ (Safe at.ring (mark d at.ring)) []
    (and_from (same_ring at.ring at.ring) (nat_lt m (mark d at.ring)) (same-self at.ring) e) (tells_none _))
    (λ e. (let same : m ≡ mark d at.ring = (let up = ltb-false m (mark d at.ring) e in omega (
      arith,
      low,
      up,
    )) in tells_to _ _ _ [] (ap (λ n. living (InRegular at xs n) earlier) same) (tells_none _)))

tells_rest : {A : Type 0} → (old new : RingId) (members : ℕ) (earlier : List (Stage A)) (xs ys : List (Message A)) → Each (λ (x : Message A). x.ring ≡ old) ys →
    Tells (living (InTransitional old new members xs) earlier) (map (λ (x : Message A). Rest x.ring x.number x) ys)
    (living (InTransitional old new members (xs ++ ys)) earlier)
tells_rest {A} old new members earlier xs [] h = tells_to _ _ _ []
    (ap (λ (zs : List (Message A)). living (InTransitional old new members zs) earlier) (sym (append-nil xs)))
    (tells_none _)
tells_rest {A} old new members earlier xs (y ∷ ys) h =
    tells_one _ _ (Rest y.ring y.number y) _
    (and_from (same_ring old y.ring) (y.number == y.number) (subst (λ r. same_ring old r ≡ true) (sym h.0) (same-self old)) (eq-eqb y.number y.number refl))
    (tells_to _ _ _ _ (ap (λ (zs : List (Message A)). living (InTransitional old new members zs) earlier)
    (append_assoc xs (y ∷ []) ys)) (tells_rest old new members earlier (xs ++ y ∷ []) ys h.1))

-- Messages that a front covers

abbrev pub heard : {A : Type 0} → (ℕ → Option (Message A)) → ℕ → ℕ → List (Message A)
heard get first count = filter (λ (x : Message _). is_user x.payload) (filter_map get (numbers_from first count))

pub found_alike : {A : Type 0} → (get got : ℕ → Option (Message A)) (first count : ℕ) → ((n : ℕ) → first ≤ n → n < first + count → get n ≡ got n) →
    filter_map get (numbers_from first count) ≡ filter_map got (numbers_from first count)
found_alike get got first zero h = refl
found_alike {A} get got first (suc count) h =
    ap (λ (o : Option (Message A)). cons_option o (filter_map get (numbers_from (suc first) count))) (h first (omega arith) (omega arith))
    ∙ ap (cons_option (got first)) (found_alike get got (suc first) count (λ n a b. h n (omega (arith, a)) (omega (arith, b))))

pub heard_more : {A : Type 0} → (get : ℕ → Option (Message A)) (m k : ℕ) → heard get 1 m ++ heard get (1 + m) k ≡ heard get 1 (m + k)
heard_more {A} get m k =
    let user : Message A → Bool = λ x. is_user x.payload in
    let a = filter_map-append get (numbers_from 1 m) (numbers_from (1 + m) k) in
    let b = filter-append user (filter_map get (numbers_from 1 m)) (filter_map get (numbers_from (1 + m) k)) in
    sym b ∙ ap (filter user) (sym a) ∙ ap (λ ns. filter user (filter_map get ns)) (numbers-append 1 m k)

users_then : {A : Type 0} → (c d : Core A) (ring : RingId) → Keeps c d → user_messages_between c ring 0 (front c ring) ++ user_messages_between d ring
    (front c ring) (front d ring) ≡ user_messages_between d ring 0 (front d ring)
users_then {A} c d ring k =
    let user : Message A → Bool = λ x. is_user x.payload in
    let f = front c ring in
    let g = front d ring in
    let up : f ≤ g = k.fronts ring in
    let get = found d.held ring in
    let zero_less : f - 0 ≡ f = omega arith in
    let all_less : g - 0 ≡ g = omega arith in
    let first : user_messages_between c ring 0 f ≡ heard get 1 f =
    ap (λ n. filter user (filter_map (found c.held ring) (numbers_from 1 n))) zero_less
    ∙ ap (filter user) (found_alike (found c.held ring) get 1 f (λ n a b. sym (k.finds ring n ((front_is c.held ring).below n a (omega (arith, b)))))) in
    let one : f + 1 ≡ 1 + f = omega arith in
    let second : user_messages_between d ring f g ≡ heard get (1 + f) (g - f) = ap (λ n. heard get n (g - f)) one in
    let whole : f + (g - f) ≡ g = omega (arith, up) in
    ap (λ (xs : List (Message A)). xs ++ user_messages_between d ring f g) first ∙ ap (λ (xs : List (Message A)). heard get 1 f ++ xs)
    second ∙ heard_more get f (g - f) ∙ ap (heard get 1) whole ∙ sym (ap (heard get 1) all_less)

-- Earlier deliveries stay

rests_same : {A : Type 0} → (p : Plan) (a b : List (Message A)) → ((n : ℕ) → found a p.old n ≡ found b p.old n) → rest_messages p a ≡ rest_messages p b
rests_same {A} p a b h =
    let rest : (ℕ → Option (Message A)) → List (Message A) =
    λ get. filter (λ (x : Message A). is_user x.payload)
    (filter_map get (transitional_part p ++ filter (λ n. is_from_transitional_member_if_there p (get n))
    (filter (nat_lt (gap p)) (known_above_safe p)))) in
    let same : found a p.old ≡ found b p.old = fun_ext h in
    ap rest same

regular_same : {A : Type 0} → (c d : Core A) (at : Configuration) → IsSameOf at.ring c d → regular_stage d at ≡ regular_stage c at
regular_same {A} c d at s =
    let same : found d.held at.ring ≡ found c.held at.ring = fun_ext s.found_is in
    ap (λ (get : ℕ → Option (Message A)). InRegular at (heard get 1 (front d at.ring - 0)) (mark d at.ring)) same
    ∙ ap (λ n. InRegular at (heard (found c.held at.ring) 1 (n - 0)) (mark d at.ring)) s.front_is
    ∙ ap (λ n. InRegular at (user_messages_between c at.ring 0 (front c at.ring)) n) s.mark_is

between_same : {A : Type 0} → (c d : Core A) (next old : Configuration) → entries_for next.ring d.plans
    ≡ entries_for next.ring c.plans → IsSameOf old.ring c d →
    between d next old ≡ between c next old
between_same {A} c d next old e s =
    let way : List CommitEntry → List (Message A) → Stage A = λ entries held. InTransitional old.ring next.ring
    (plan_of old.ring next.members entries).transitional_members (rest_messages (plan_of old.ring next.members entries) held) in
    ap (λ entries. way entries d.held) e
    ∙ ap (InTransitional old.ring next.ring (plan_into c next old).transitional_members) (rests_same (plan_into c next old) d.held c.held s.found_is)

before_same : {A : Type 0} → (c d : Core A) → Keeps c d → (next : Configuration) (older : List Configuration)
    → next.ring.seq ≤ c.installed.ring.seq → IsFalling (next ∷ older) →
    earlier_stages d next older ≡ earlier_stages c next older
before_same c d k next [] l f = refl
before_same {A} c d k next (old ∷ older) l f =
    let low : old.ring.seq < c.installed.ring.seq = omega (arith, l, f.0) in
    let s = k.left old.ring low in
    ap (λ (x : Stage A). x ∷ regular_stage d old ∷ earlier_stages d old older) (between_same c d next old (k.entries next.ring l) s)
    ∙ ap (λ (x : Stage A). between c next old ∷ x ∷ earlier_stages d old older) (regular_same c d old s)
    ∙ ap (λ (xs : List (Stage A)). between c next old ∷ regular_stage c old ∷ xs) (before_same c d k old older (omega (arith, low)) f.1)

-- The outputs of a step for the installed ring

tells_given : {A : Type 0} → (c d : Core A) (older : List Configuration) → Keeps c d → IsFalling (c.installed ∷ older) →
    Tells (core_life_in c c.installed older) (agreed_and_safe_of_step c d) (core_life_in d c.installed older)
tells_given {A} c d older k f =
    let at = c.installed in
    let before = earlier_stages c at older in
    let all = user_messages_between c at.ring 0 (front c at.ring) ++ user_messages_between d at.ring (front c at.ring) (front d at.ring) in
    tells_to _ (living (InRegular at all (mark d at.ring)) before) _ (agreed_and_safe_of_step c d)
    (ap (λ (xs : List (Message A)). living (InRegular at xs (mark d at.ring)) before) (users_then c d at.ring k)
    ∙ ap (living (regular_stage d at)) (sym (before_same c d k at older (omega arith) f)))
    (tells_then (core_life_in c at older) (living (InRegular at all (mark c at.ring)) before) _ (agreed_from d at.ring
    (front c at.ring)) (safe_from d at.ring (mark c at.ring))
    (tells_agreed at (mark c at.ring) before (user_messages_between c at.ring 0 (front c at.ring)) (user_messages_between d at.ring (front c at.ring) (front d at.ring)))
    (tells_safe d at (mark c at.ring) before all (k.marks at.ring)))

-- An installation

found_ring : {A : Type 0} → (held : List (Message A)) (ring : RingId) (ns : List ℕ) → Each (λ (x : Message A). x.ring ≡ ring) (filter_map (found held ring) ns)
found_ring {A} held ring ns =
    each-filter_map (λ (n : ℕ). Unit {0}) (λ (x : Message A). x.ring ≡ ring) (found held ring)
    (λ n x u e. ring_same x.ring ring (and_parts (same_ring x.ring ring) (x.number == n)
    (find-in (is_numbered ring n) x held e).1).0) ns (each-in (λ (n : ℕ). Unit {0}) ns (λ n i. tt))

rests_ring : {A : Type 0} → (p : Plan) (held : List (Message A)) → Each (λ (x : Message A). x.ring ≡ p.old) (rest_messages p held)
rests_ring {A} p held = each-filter (λ (x : Message A). x.ring ≡ p.old)
    (λ (x : Message A). is_user x.payload) _ (found_ring held p.old (transitional_part p ++ past_gap_part p held))

tells_configured : {A : Type 0} → (d : Core A) (older : List Configuration) → Tells (core_life_in d d.installed older)
    (installation_outputs d) (core_life_in (install d) d.running (d.installed ∷ older))
tells_configured {A} d older =
    let old = d.installed in
    let next = d.running in
    let before = regular_stage d old ∷ earlier_stages d old older in
    let rest = rest_messages (plan d) d.held in
    let way = between d next old ∷ before in
    tells_one (core_life_in d old older) _ (Trans old.ring next.ring (plan d).transitional_members) _ (same-self old.ring)
    (tells_then _ (living (between d next old) before) _ (map (λ (x : Message A). Rest x.ring x.number x) rest)
    (Regular next.ring next.members ∷ delivered_from d next.ring 0 0)
    (tells_rest old.ring next.ring (plan d).transitional_members before [] rest (rests_ring (plan d) d.held))
    (tells_one _ _ (Regular next.ring next.members) (delivered_from d next.ring 0 0) (same-self next.ring)
    (tells_then _ (living (InRegular next (user_messages_between d next.ring 0 (front d next.ring)) 0) way) _ (agreed_from d next.ring 0) (safe_from d next.ring 0)
    (tells_agreed next 0 way [] (user_messages_between d next.ring 0 (front d next.ring)))
    (tells_safe d next 0 way (user_messages_between d next.ring 0 (front d next.ring)) (omega arith)))))

-- A step

-- a transition, and perhaps a proposal, keeps the earlier deliveries
pub record IsKeptBy {A : Type 0} (c d : Core A) : Type 0 where
  pub keeps : Keeps c d
  pub ordered : Ordered d

keeps_proposal : {A : Type 0} → (c : Core A) (m : Move A) → IsKeptBy c (core_after_move c m) → (b : Bool) → (b ≡ true → proposes (core_after_move c m) ≡ true) →
    IsKeptBy c (with_proposal_if b (move_result c m)).core
keeps_proposal c m h false p = h
keeps_proposal {A} c m h true p =
    let d = core_after_move c m in
    let e = Enters (proposed_token d) in
    let may = may_propose (λ frame. Unit {0}) d (p refl) in
    record {
      keeps = keeps_then c d (core_after_move d e) h.keeps (moved_keeps (λ frame. Unit {0}) d e may h.ordered tt);
      ordered = moved_ordered (λ frame. Unit {0}) d e may h.ordered;
    }

pub keeps_done : {A : Type 0} → (c : Core A) (input : Input A) → Ordered c → IsKeptBy c (transition_and_proposal c (decide c input)).core
keeps_done {A} c input o =
    let a = decide c input in
    let m = move_of c a in
    let received : Frame A → Type 0 = λ frame. input ≡ FrameInput frame in
    let may : MayMove received c m = may_act c input a (guarded c input) (caused c input) (asked_by c input a refl (caused c input)) in
    let first : IsKeptBy c (core_after_move c m) = record { keeps = moved_keeps received c m may o (still_of c a); ordered = moved_ordered received c m may o } in
    subst (λ (d : TransitionResult A). IsKeptBy c (with_proposal_if (may_propose_after a && proposes d.core) d).core) (sym (acted c a))
    (keeps_proposal c m first (may_propose_after a && proposes (core_after_move c m)) (λ e. (and_parts (may_propose_after a) (proposes (core_after_move c m)) e).1))

pub tale_is : {A : Type 0} → (c : Core A) (o : Ordered c) → core_life c ≡ core_life_in c c.installed o.older
tale_is c o = ap (core_life_through c) o.newest

settled_tells : {A : Type 0} → (c : Core A) (b : Bool) (d : Core A) (outs : List (Out A)) (older : List Configuration) → d.installs ≡ d.installed ∷ older →
    Tells (core_life c) outs (core_life_in d d.installed older) → Tells (core_life c) (with_installation_if b d outs).outs (core_life (with_installation_if b d outs).core)
settled_tells c false d outs older e t = tells_to (core_life c) (core_life_in d d.installed older) (core_life d) outs (sym (ap (core_life_through d) e)) t
settled_tells c true d outs older e t =
    tells_then (core_life c) (core_life_in d d.installed older) (core_life (install d)) outs (installation_outputs d) t
    (tells_to _ (core_life_in (install d) d.running (d.installed ∷ older)) (core_life (install d)) (installation_outputs d)
    (ap (core_life_in (install d) d.running) (sym e)) (tells_configured d older))

pub step_tells : {A : Type 0} → (c : Core A) (input : Input A) → Ordered c → Tells (core_life c) (ring_step c input).outs (core_life (ring_step c input).core)
unfolding ring_step
step_tells {A} c input o =
    let d = transition_and_proposal c (decide c input) in
    let k = (keeps_done c input o).keeps in
    let told : Tells (core_life_in c c.installed o.older) (sent d.sends ++ agreed_and_safe_of_step c d.core) (core_life_in d.core c.installed o.older) =
    tells_then _ (core_life_in c c.installed o.older) _ (sent d.sends) (agreed_and_safe_of_step c d.core)
    (tells_sends (core_life_in c c.installed o.older) (sends_with_receivers d.sends)) (tells_given c d.core o.older k o.falls) in
    let from : Tells (core_life c) (sent d.sends ++ agreed_and_safe_of_step c d.core) (core_life_in d.core c.installed o.older) =
    subst (λ (l : Life A). Tells l (sent d.sends ++ agreed_and_safe_of_step c d.core) (core_life_in d.core c.installed o.older))
    (sym (tale_is c o)) told in
    let to : Tells (core_life c) (sent d.sends ++ agreed_and_safe_of_step c d.core) (core_life_in d.core (d.core).installed o.older) =
    tells_to (core_life c) _ _ (sent d.sends ++ agreed_and_safe_of_step c d.core) (ap (λ at. core_life_in d.core at o.older) (sym k.installed)) from in
    settled_tells c (may_install d.core) d.core (sent d.sends ++ agreed_and_safe_of_step c d.core) o.older (k.installs ∙ o.newest ∙ ap (λ at. at ∷ o.older) (sym k.installed)) to
