-- The members of each ring are processors of the group, and a processor outside the group never visits a token.

-- Frames that name others are ignored, so all sets of a core are of the group.
use Rattle.std.proofs.Common.{◌≡◌, ℕ, ◌-◌, ◌^◌, ◌<◌, ◌≤◌, Bool, true, false, ◌&&◌, ◌==◌, inl, inr, List, [], ◌∷◌, ◌++◌, Option, Some, None, refl, ap}
use Rattle.std.proofs.Common.{sym, ◌∙◌, subst, arith}
use Rattle.std.specs.Prelude.{nat_le, nat_lt, bit_and}
use Rattle.std.specs.List.{AllByRecursion as Each}
use Rattle.std.proofs.lemmas.Bool.{cond_both, cases_lt, and_parts, and_from, eqb-true, leb-true, le-leb}
use Rattle.std.proofs.lemmas.Nat.{or_lt, pow_below, pow_pos}
use Rattle.std.proofs.lemmas.Nat.Bits.{bit_at_above}
use lib.Bits.{and_le_r}
use Rattle.ring_base.specs.Processors.{IsMember, has, within, only, everybody, size}
use Rattle.ring_wire.specs.declared.commit.CommitToken.{CommitToken}
use Rattle.ring_wire.specs.declared.frame.Frame.{Frame}
use Rattle.ring_wire.specs.declared.frame.Frame.TheVariants.{Join as JoinFrame}
use Rattle.ring_wire.specs.declared.join.Join.{Join}
use Rattle.ring_core_spec.specs.Joins.{Gathering, has_same_sets, with_agreement, sets_merged, join_merged, candidates}
use Rattle.ring_core_spec.specs.Commits.{Configuration}
use Rattle.ring_core_spec.specs.declared.input.Input.{Input}
use Rattle.ring_core_spec.specs.declared.input.Input.TheVariants.{Frame as FrameInput, Timeout as TimeInput, Send as SendInput}
use Rattle.ring_core_spec.specs.declared.out.Out.{Out}
use Rattle.ring_core_spec.specs.State.{Core, TransitionResult, Transmission, floor, opening, halted, frame_at}
use Rattle.ring_core_spec.specs.Naming.{is_named}
use Rattle.ring_core_spec.specs.Joining.{first_procs, gather_entered, proposes}
use Rattle.ring_core_spec.specs.Deciding.{Transition, Ignore, Enqueue, Repeat, Announce, Invite, GiveUp, EnterGather, Agree, MergeJoin, EnterGatherAndAgree}
use Rattle.ring_core_spec.specs.Deciding.{EnterGatherAndMergeJoin}
use Rattle.ring_core_spec.specs.Deciding.{Take, Visit, Fill, Learn, decide_if_named, decide}
use Rattle.ring_core_spec.specs.Transitions.{apply_transition, may_propose_after, with_proposal_if, transition_and_proposal}
use Rattle.ring_core_spec.specs.Giving.{may_install, with_installation_if, sent, agreed_and_safe_of_step}
use Rattle.ring_core_spec.specs.Stepping.{ring_step}
use Rattle.ring_core_proof.specs.FactWords.{IsIn}
use Rattle.ring_core_proof.specs.LawConditions.{HasPassed, IsInputOf}
use Rattle.ring_core_proof.specs.declared.event.RingEvent.{RingEvent}
use Rattle.ring_core_proof.specs.declared.event.RingEvent.TheVariants.{Send, Deliver, Timeout, Stop}
use Rattle.ring_core_proof.specs.Worlds.{World, with_core, is_node, stepped_if, stopped_if, handed_if, handed, world_after_event, run, unformed}
use Rattle.ring_core_proof.proofs.Causes.{caused}
use Rattle.ring_core_proof.proofs.Guards.{guarded}
use Rattle.ring_core_proof.proofs.InLists.{in-each}

-- Sets of the first n processors, as words

every_lt : (n : ℕ) → everybody n < 2 ^ n
every_lt n = let some : 0 < 2 ^ n = pow_pos n in omega (arith, some)

within_lt : (n set : ℕ) → within set (everybody n) ≡ true → set < 2 ^ n
within_lt n set h =
    let same : bit_and set (everybody n) ≡ set = eqb-true (bit_and set (everybody n)) set h in
    let below : bit_and set (everybody n) ≤ everybody n = and_le_r set (everybody n) in
    let all = every_lt n in
    omega (arith, same, below, all)

candidates_lt : (n : ℕ) (g : Gathering) → g.proc_set < 2 ^ n → candidates g < 2 ^ n
candidates_lt n g h = omega (arith, h)

pub member_below : (n set i : ℕ) → set < 2 ^ n → IsMember set i → i ≤ n
member_below n set i small m =
    elim (cases_lt n i) [
      | inl above ↦
          let none = bit_at_above set n (i - 1) small (omega arith) in
          absurd (omega (arith, none, m.1))
      | inr le ↦ le
    ]

-- A core whose sets are all of the group

pub record AreWithin (n total gathers runs last : ℕ) (all : List Configuration) : Type 0 where
  pub among : total ≡ n
  pub procs : gathers < 2 ^ n
  pub running : runs < 2 ^ n
  pub installed : last < 2 ^ n
  pub rings : Each (λ (x : Configuration). x.members < 2 ^ n) all

abbrev pub IsWithin : {A : Type 0} → ℕ → Core A → Type 0
IsWithin n c = AreWithin n c.total c.gathering.proc_set c.running.members c.installed.members c.rings

-- a join that widens its sets names the group's processors alone
abbrev NamesGroup : {A : Type 0} → ℕ → Transition A → Type 0
NamesGroup n (MergeJoin j) = j.proc_set < 2 ^ n
NamesGroup n (EnterGatherAndMergeJoin j) = j.proc_set < 2 ^ n
NamesGroup n Ignore = Unit {0}
NamesGroup n (Enqueue p) = Unit {0}
NamesGroup n Repeat = Unit {0}
NamesGroup n Announce = Unit {0}
NamesGroup n Invite = Unit {0}
NamesGroup n GiveUp = Unit {0}
NamesGroup n EnterGather = Unit {0}
NamesGroup n (Agree j) = Unit {0}
NamesGroup n (EnterGatherAndAgree j) = Unit {0}
NamesGroup n (Take x) = Unit {0}
NamesGroup n (Visit t) = Unit {0}
NamesGroup n (Fill k) = Unit {0}
NamesGroup n (Learn k) = Unit {0}

join_named : {A : Type 0} → (c : Core A) (input : Input A) (j : Join) (a : Transition A) → (Ignore ≡ a → ⊥) → decide c input ≡ a → input ≡ FrameInput (JoinFrame j) →
    j.proc_set < 2 ^ c.total
join_named {A} c input j a never decided received =
    by (is_named {A = A} c.total (JoinFrame j)) refl (subst (λ (x : Input A). decide c x ≡ a) received decided)
  where
    by : (b : Bool) → is_named {A = A} c.total (JoinFrame j) ≡ b → decide_if_named b c (JoinFrame j) ≡ a → j.proc_set < 2 ^ c.total
    by false named e = absurd (never e)
    by true named e =
        let both = and_parts (nat_le j.sender c.total && within j.proc_set (everybody c.total)) (within j.fail_set (everybody c.total)) named in
        within_lt c.total j.proc_set (and_parts (nat_le j.sender c.total) (within j.proc_set (everybody c.total)) both.0).1

names_group : {A : Type 0} → (c : Core A) (input : Input A) (a : Transition A) → decide c input ≡ a → IsInputOf c input a → NamesGroup c.total a
names_group c input (MergeJoin j) e received = join_named c input j (MergeJoin j) (λ k. (let n : ⊥ = cc in n)) e received
names_group c input (EnterGatherAndMergeJoin j) e received = join_named c input j (EnterGatherAndMergeJoin j) (λ k. (let n : ⊥ = cc in n)) e received
names_group c input Ignore e received = tt
names_group c input (Enqueue p) e received = tt
names_group c input Repeat e received = tt
names_group c input Announce e received = tt
names_group c input Invite e received = tt
names_group c input GiveUp e received = tt
names_group c input EnterGather e received = tt
names_group c input (Agree j) e received = tt
names_group c input (EnterGatherAndAgree j) e received = tt
names_group c input (Take x) e received = tt
names_group c input (Visit t) e received = tt
names_group c input (Fill k) e received = tt
names_group c input (Learn k) e received = tt

-- Each transition keeps such sets

widened_lt : (n me : ℕ) (g : Gathering) (j : Join) → g.proc_set < 2 ^ n → j.proc_set < 2 ^ n → (join_merged me g j).proc_set < 2 ^ n
widened_lt n me g j a b =
    let s = sets_merged me g j in
    let both : s.proc_set < 2 ^ n = or_lt n g.proc_set j.proc_set a b in
    cond_both (has_same_sets s j) (with_agreement s j) s (λ (h : Gathering). h.proc_set < 2 ^ n) (λ e. both) (λ e. both)

first_lt : {A : Type 0} → (n : ℕ) (c : Core A) → IsWithin n c → first_procs c < 2 ^ n
first_lt n c w =
    cond_both (c.installed.ring.seq == 0) (everybody c.total) c.installed.members (λ set. set < 2 ^ n)
    (λ e. subst (λ total. everybody total < 2 ^ n) (sym w.among) (every_lt n)) (λ e. w.installed)

regathers : {A : Type 0} → (n set : ℕ) (c : Core A) → set < 2 ^ n → IsWithin n c → AreWithin n c.total set c.running.members c.installed.members c.rings
regathers n set c h w = record { among = w.among; procs = h; running = w.running; installed = w.installed; rings = w.rings }

enters : {A : Type 0} → (n : ℕ) (c : Core A) (x : Configuration) → x.members < 2 ^ n → IsWithin n c →
    AreWithin n c.total c.gathering.proc_set x.members c.installed.members (x ∷ c.rings)
enters n c x h w = record { among = w.among; procs = w.procs; running = h; installed = w.installed; rings = (h, w.rings) }

first_round : {A : Type 0} → (n : ℕ) (c : Core A) (k : CommitToken) → HasPassed c (Fill k) → IsWithin n c → k.members < 2 ^ n
first_round n c k g w =
    let tests = and_parts (nat_lt k.hop (size k.members) && (k.members == candidates c.gathering)) (nat_lt (floor c) k.ring.seq) g.passes in
    let among = and_parts (nat_lt k.hop (size k.members)) (k.members == candidates c.gathering) tests.0 in
    let same : k.members ≡ candidates c.gathering = eqb-true k.members (candidates c.gathering) among.1 in
    subst (λ set. set < 2 ^ n) (sym same) (candidates_lt n c.gathering w.procs)

act_within : {A : Type 0} → (n : ℕ) (c : Core A) (a : Transition A) → HasPassed c a → NamesGroup n a → IsWithin n c → IsWithin n (apply_transition c a).core
act_within n c Ignore g h w = w
act_within n c (Enqueue p) g h w = w
act_within n c Repeat g h w = w
act_within n c Announce g h w = w
act_within n c Invite g h w = w
act_within n c GiveUp g h w = w
act_within n c EnterGather g h w = regathers n (first_procs c) c (first_lt n c w) w
act_within n c (Agree j) g h w = w
act_within n c (MergeJoin j) g h w = regathers n (join_merged c.me c.gathering j).proc_set c (widened_lt n c.me c.gathering j w.procs h) w
act_within n c (EnterGatherAndAgree j) g h w = regathers n (first_procs c) c (first_lt n c w) w
act_within n c (EnterGatherAndMergeJoin j) g h w =
    regathers n (join_merged c.me (gather_entered c).gathering j).proc_set c (widened_lt n c.me (gather_entered c).gathering j (first_lt n c w) h) w
act_within n c (Take x) g h w = w
act_within n c (Visit t) g h w = w
act_within n c (Fill k) g h w = enters n c (record { ring = k.ring; members = k.members }) (first_round n c k g w) w
act_within n c (Learn k) g h w = w

proposed_within : {A : Type 0} → (n : ℕ) (b : Bool) (d : TransitionResult A) → IsWithin n d.core → IsWithin n (with_proposal_if b d).core
proposed_within n false d w = w
proposed_within n true d w = enters n d.core _ (candidates_lt n d.core.gathering w.procs) w

settled_within : {A : Type 0} → (n : ℕ) (b : Bool) (c : Core A) (outs : List (Out A)) → IsWithin n c → IsWithin n (with_installation_if b c outs).core
settled_within n false c outs w = w
settled_within n true c outs w = record { among = w.among; procs = w.procs; running = w.running; installed = w.running; rings = w.rings }

step_within : {A : Type 0} → (n : ℕ) (c : Core A) (input : Input A) → IsWithin n c → IsWithin n (ring_step c input).core
unfolding ring_step
step_within {A} n c input w =
    let a = decide c input in
    let names : NamesGroup n a = subst (λ total. NamesGroup total a) w.among (names_group c input a refl (caused c input)) in
    let d = apply_transition c a in
    let e = transition_and_proposal c a in
    settled_within n (may_install e.core) e.core (sent e.sends ++ agreed_and_safe_of_step c e.core)
    (proposed_within n (may_propose_after a && proposes d.core) d (act_within n c a (guarded c input) names w))

-- Every world

-- it holds for a processor of the group; any other never visited a token
abbrev pub StandsAs : {A : Type 0} → Bool → ℕ → Core A → Type 0
StandsAs true n c = IsWithin n c
StandsAs false n c = c.turns ≡ []

abbrev pub AllStand : {A : Type 0} → World A → Type 0
AllStand w = (q : ℕ) → StandsAs (is_node w q) w.total (w.cores q)

module _ {A : Type 0} (w : World A) (all : AllStand w) where
  put_stands : (i : ℕ) (c : Core A) → is_node w i ≡ true → IsWithin w.total c → (q : ℕ) → StandsAs (is_node w q) w.total (with_core w.cores i c q)
  put_stands i c node h q =
      cond_both (q == i) c (w.cores q) (λ (x : Core A). StandsAs (is_node w q) w.total x)
      (λ e. subst (λ b. StandsAs b w.total c) (sym (ap (is_node w) (eqb-true q i e) ∙ node)) h) (λ e. all q)

  own : (i : ℕ) → is_node w i ≡ true → IsWithin w.total (w.cores i)
  own i node = subst (λ b. StandsAs b w.total (w.cores i)) node (all i)

  steps_stand : (b : Bool) (i : ℕ) (input : Input A) → is_node w i ≡ b → AllStand (stepped_if b w i input)
  steps_stand false i input node = all
  steps_stand true i input node = put_stands i (ring_step (w.cores i) input).core node (step_within w.total (w.cores i) input (own i node))

  stops_stand : (b : Bool) (i : ℕ) → is_node w i ≡ b → AllStand (stopped_if b w i)
  stops_stand false i node = all
  stops_stand true i node = put_stands i (halted (w.cores i)) node (own i node)

  comes_stand : (b : Bool) (i : ℕ) (frame : Frame A) → AllStand (handed_if b w i frame)
  comes_stand false i frame = all
  comes_stand true i frame = steps_stand (is_node w i) i (FrameInput frame) refl

  hands_stand : (i : ℕ) (o : Option (Transmission A)) → AllStand (handed w i o)
  hands_stand i None = all
  hands_stand i (Some f) = comes_stand (has f.to i) i f.frame

  event_stands : (e : RingEvent A) → AllStand (world_after_event w e)
  event_stands (Send i payload) = steps_stand (is_node w i) i (SendInput payload) refl
  event_stands (Deliver i k) = hands_stand i (frame_at w.frames k)
  event_stands (Timeout i kind) = steps_stand (is_node w i) i (TimeInput kind) refl
  event_stands (Stop i) = stops_stand (is_node w i) i refl

run_stands : {A : Type 0} → (w : World A) (events : List (RingEvent A)) → AllStand w → AllStand (run w events)
run_stands w [] all = all
run_stands w (e ∷ events) all = run_stands (world_after_event w e) events (event_stands w all e)

only_lt : (n q : ℕ) → 1 ≤ q → q ≤ n → only q < 2 ^ n
only_lt n q low high = pow_below (q - 1) n (omega (arith, low, high))

opening_stands : (A : Type 0) → (n q : ℕ) (b : Bool) → (nat_le 1 q && nat_le q n) ≡ b → StandsAs b n (opening {A = A} n q)
opening_stands A n q false e = refl
opening_stands A n q true e =
    let p = and_parts (nat_le 1 q) (nat_le q n) e in
    let own : only q < 2 ^ n = only_lt n q (leb-true 1 q p.0) (leb-true q n p.1) in
    record { among = refl; procs = every_lt n; running = own; installed = own; rings = (own, tt) }

pub all_stand : {A : Type 0} → (n : ℕ) (events : List (RingEvent A)) → AllStand (run (unformed n) events)
all_stand {A} n events = run_stands (unformed n) events (λ q. opening_stands A n q (nat_le 1 q && nat_le q n) refl)

-- so each member of a ring of a processor of the group is of the group
pub member_in : {A : Type 0} → (n : ℕ) (events : List (RingEvent A)) (i : ℕ) → is_node (run (unformed n) events) i ≡ true →
    (x : Configuration) → IsIn x ((run (unformed n) events).cores i).rings → (q : ℕ) → IsMember x.members q → is_node (run (unformed n) events) q ≡ true
member_in {A} n events i node x there q m =
    let w = run (unformed n) events in
    let c = w.cores i in
    let stands : IsWithin w.total c = own w (all_stand n events) i node in
    let small : x.members < 2 ^ w.total = in-each (λ (y : Configuration). y.members < 2 ^ w.total) x c.rings stands.rings there in
    and_from (nat_le 1 q) (nat_le q w.total) (le-leb 1 q m.0) (le-leb q w.total (member_below w.total x.members q small m))
