-- A core's invariant is kept as messages are held: one of the ring in use, and in Recovery its inner message of the
-- old ring.
use Rattle.std.proofs.Common.{◌≡◌, ℕ, ◌+◌, ◌-◌, ◌<◌, ◌≤◌, max, true, false, List, [], ◌∷◌, ◌++◌, map, filter}
use Rattle.std.proofs.Common.{filter_map, length, Option, Some, None, refl, ap, ◌∙◌, sym, subst, inl, inr, arith}
use denote.Enum.Bare.{sameb, same_false}
use mathlib.Core.Path.{fun_ext}
use Rattle.std.specs.Prelude.{◌&&◌, ◌==◌}
use Rattle.std.proofs.lemmas.Bool.{cases_Bool, cond-true, cond-false, and_parts, and_from, or_right}
use Rattle.ring_base.specs.Prefixes.{IsListPrefix, prefix_trans, prefix_shorter, prefix_whole}
use Rattle.ring_base.specs.Numbers.{numbers_from, greatest}
use Rattle.ring_base.specs.Rings.{same_ring}
use Rattle.ring_base.specs.declared.ring_id.RingId.{RingId}
use Rattle.ring_base.specs.contracts.state.State.{the_type}
use Rattle.ring_base.specs.declared.state.State.{State}
use Rattle.ring_base.specs.declared.state.State.TheVariants.{Gather, Commit, Recovery, Operational, Stopped}
use Rattle.ring_payload.specs.PayloadKinds.{is_user}
use Rattle.ring_payload.specs.declared.content.Payload.{Payload}
use Rattle.ring_payload.specs.declared.content.Payload.TheVariants.{Call, Wrapped, End, Head, Part, Pack, Snap}
use Rattle.ring_wire.specs.declared.message.Message.{Message}
use Rattle.ring_window.specs.Held.{is_numbered, found, holds, of_ring, highest, front_of, is_new}
use Rattle.ring_window.specs.Windows.{WindowHistory, takes, window_after_take}
use Rattle.ring_window.proofs.HeldFront.{front_grows}
use Rattle.ring_window.proofs.OfRing.{found_of_ring, front_of_ring, highest_of_ring, is_new_of_ring}
use Rattle.ring_base.proofs.SameRing.{ring_same, ring_itself, lower_other, higher_other}
use Rattle.ring_window.proofs.Windows.{IsTaken, taken_is}
use Rattle.ring_token.specs.Histories.{TokenHistory, last_aru}
use Rattle.ring_token.specs.TokenVisits.{visits_in_ring}
use Rattle.ring_recover.specs.Installing.{in_front}
use Rattle.ring_recover.specs.RecoveryState.{with_seen, RecoveryState as Seen}
use Rattle.ring_recover.specs.Wrapping.{inner_messages}
use Rattle.ring_recover.proofs.AllRings.{in_front_of_ring, inner_of_ring}
use Rattle.ring_recover.proofs.MessagesInFront.{up_to, up_to_all, up_to_front, front_with}
use Rattle.ring_join.specs.Gatherers.{Gatherer}
use Rattle.ring_commit.specs.declared.configuration.Configuration.{Configuration}
use Rattle.ring_core_spec.specs.State.{Core, floor}
use Rattle.ring_core_spec.specs.Transitions.{old_ring_messages, message_taken}
use Rattle.ring_core_spec.specs.Deciding.{takes_of, members_of, is_taken}
use Rattle.ring_core_spec.specs.Giving.{user_messages_between}
use Rattle.ring_core_spec.specs.Recoveries.{inner_message}
use Rattle.ring_core_spec.specs.Views.{front, mark, plan, takes_number}
use Rattle.ring_base.specs.Processors.{has}
use Rattle.ring_srp_state.specs.declared.recovery_state.RecoveryState.{RecoveryState}
use Rattle.ring_srp_transitions.specs.RunningCores.{IsPart, IsBelow, held_ring_bound, is_forming, ring_in_use, window_of, Recovers, IsRecovering, IsRunningCore}
use Rattle.ring_srp_state.specs.Taking.{window_front, with_taken, inner_of, with_inner}
use Rattle.ring_srp_transitions.proofs.KeptByTransitions.{machine_as}

-- the core with other messages held
abbrev pub with_held : {A : Type 0} → Core A → List (Message A) → Core A
with_held c held = record c { held = held }

le_on : (a b c : ℕ) → a ≤ b → b ≤ c → a ≤ c
le_on a b c h k = omega (arith, h, k)

-- ---- what a core says of a ring depends on the ring's own messages alone

module _ {A : Type 0} (ring : RingId) (a b : List (Message A)) (same : of_ring ring a ≡ of_ring ring b) where
  pub same_found : found a ring ≡ found b ring
  same_found = fun_ext (λ n. sym (found_of_ring a ring n) ∙ ap (λ (xs : List (Message A)). found xs ring n) same ∙ found_of_ring b ring n)

  pub same_front : front_of a ring ≡ front_of b ring
  same_front = sym (front_of_ring a ring) ∙ ap (λ (xs : List (Message A)). front_of xs ring) same ∙ front_of_ring b ring

  pub same_highest : highest a ring ≡ highest b ring
  same_highest = sym (highest_of_ring a ring) ∙ ap (λ (xs : List (Message A)). highest xs ring) same ∙ highest_of_ring b ring

  pub same_new : (mark n : ℕ) → is_new a mark ring n ≡ is_new b mark ring n
  same_new mark n = sym (is_new_of_ring a mark ring n) ∙ ap (λ (xs : List (Message A)). is_new xs mark ring n) same ∙ is_new_of_ring b mark ring n

  pub same_in_front : in_front a ring ≡ in_front b ring
  same_in_front = sym (in_front_of_ring ring a) ∙ ap (λ (xs : List (Message A)). in_front xs ring) same ∙ in_front_of_ring ring b

  pub same_users : (below upto : ℕ) → filter (λ (x : Message A). is_user x.payload) (filter_map (found a ring) (numbers_from (below + 1) (upto - below)))
      ≡ filter (λ (x : Message A). is_user x.payload) (filter_map (found b ring) (numbers_from (below + 1) (upto - below)))
  same_users below upto = ap (λ (f : ℕ → Option (Message A)). filter (λ (x : Message A). is_user x.payload)
      (filter_map f (numbers_from (below + 1) (upto - below)))) same_found

-- a message of another ring
pub not_of_ring : {A : Type 0} (ring : RingId) (x : Message A) (held : List (Message A)) → same_ring x.ring ring ≡ false
    → of_ring ring (x ∷ held) ≡ of_ring ring held
not_of_ring ring x held h = cond-false (same_ring x.ring ring) (x ∷ of_ring ring held) (of_ring ring held) h

-- the inner messages of a payload
pub unwrapped_of_ring : {A : Type 0} (old : RingId) (mark : ℕ) (held : List (Message A)) (payload : Payload A)
    → inner_messages old mark (of_ring old held) payload ≡ inner_messages old mark held payload
unwrapped_of_ring old mark held (Wrapped w) = inner_of_ring old mark held w
unwrapped_of_ring old mark held (Call call) = refl
unwrapped_of_ring old mark held End = refl
unwrapped_of_ring old mark held (Head head) = refl
unwrapped_of_ring old mark held (Part part) = refl
unwrapped_of_ring old mark held (Pack pack) = refl
unwrapped_of_ring old mark held (Snap snap) = refl

-- ---- the part of one ring

pub part_same : {A : Type 0} (c : Core A) (held : List (Message A)) (ring : RingId) (w : WindowHistory A) (v : TokenHistory A)
    → of_ring ring held ≡ of_ring ring c.held
    → IsPart c ring w v → IsPart (with_held c held) ring w v
part_same {A} c held ring w v same p =
    let f = sym (same_front ring held c.held same) in
    record {
      window_is = p.window_is ∙ ap (λ (xs : List (Message A)). record { ring = ring; mark = mark c ring; held = xs }) (sym same);
      visit_is = p.visit_is;
      reached = subst (λ n. mark c ring ≤ n) f p.reached;
      near = subst (λ n. n ≤ mark c ring + 256) (sym (same_highest ring held c.held same)) p.near;
      led = subst (λ n. last_aru (visits_in_ring ring c.turns) ≤ n) f p.led;
    }

-- all messages, by the ring's mark
abbrev pub all_by : {A : Type 0} → Core A → RingId → WindowHistory A
all_by c ring = record { ring = ring; mark = mark c ring; held = c.held }

-- a message of the ring whose number is new
pub fresh_is : {A : Type 0} (c : Core A) (ring : RingId) (x : Message A) → x.ring ≡ ring → takes_number c x.ring x.number ≡ true → IsTaken (all_by c ring) x
fresh_is c ring x e h =
    taken_is (all_by c ring) x (and_from (same_ring x.ring ring) (is_new c.held (mark c ring) ring x.number) (ring_itself x.ring ring e)
    (subst (λ (q : RingId). takes_number c q x.number ≡ true) e h))

-- its window takes it
pub window_takes : {A : Type 0} (c : Core A) (ring : RingId) (x : Message A) (w : WindowHistory A) (v : TokenHistory A) → x.ring ≡ ring
    → takes_number c x.ring x.number ≡ true
    → IsPart c ring w v → window_after_take w x ≡ record w { held = x ∷ w.held }
window_takes {A} c ring x w v e h p =
    let new : is_new (of_ring ring c.held) (mark c ring) ring x.number ≡ true = is_new_of_ring c.held (mark c ring) ring x.number
    ∙ subst (λ (q : RingId). takes_number c q x.number ≡ true) e h in
    let t : takes w x ≡ true = ap (λ (u : WindowHistory A). takes u x) p.window_is
    ∙ and_from (same_ring x.ring ring) (is_new (of_ring ring c.held) (mark c ring) ring x.number) (ring_itself x.ring ring e) new in
    cond-true (takes w x) (record w { held = x ∷ w.held }) w t

grown : {A : Type 0} (x : Message A) (held : List (Message A)) (ring : RingId) → front_of held ring ≤ front_of (x ∷ held) ring
grown x held ring = front_grows held (x ∷ held) ring (λ n h. or_right (is_numbered ring n x) (holds held ring n) h)

near_by : (h n k m : ℕ) → h ≡ max n k → n ≤ m + 256 → k ≤ m + 256 → h ≤ m + 256
near_by h n k m e a b = omega (arith, e, a, b)

module _ {A : Type 0} (c : Core A) (ring : RingId) (x : Message A) (t : IsTaken (all_by c ring) x) where
  one_of_ring : of_ring ring (x ∷ c.held) ≡ x ∷ of_ring ring c.held
  one_of_ring = cond-true (same_ring x.ring ring) (x ∷ of_ring ring c.held) (of_ring ring c.held) t.same

  pub part_more : (w : WindowHistory A) (v : TokenHistory A) → IsPart c ring w v → IsPart (with_held c (x ∷ c.held)) ring (record w { held = x ∷ w.held }) v
  part_more w v p =
      let high : highest (x ∷ c.held) ring ≡ max x.number (highest c.held ring) = ap
      (λ (xs : List (Message A)). greatest (map (λ (y : Message A). y.number) xs)) one_of_ring in
      record {
        window_is =
            ap (λ (u : WindowHistory A). record u { held = x ∷ u.held }) p.window_is
            ∙ ap (λ (xs : List (Message A)). record { ring = ring; mark = mark c ring; held = xs }) (sym one_of_ring);
        visit_is = p.visit_is;
        reached = le_on (mark c ring) (front_of c.held ring) (front_of (x ∷ c.held) ring) p.reached (grown x c.held ring);
        near = near_by (highest (x ∷ c.held) ring) x.number (highest c.held ring) (mark c ring) high t.inside p.near;
        led = le_on (last_aru (visits_in_ring ring c.turns)) (front_of c.held ring) (front_of (x ∷ c.held) ring) p.led (grown x c.held ring);
      }

  -- up to the old front nothing changes
  same_up_to : (k : ℕ) → k ≤ front_of c.held ring → up_to (x ∷ c.held) ring k ≡ up_to c.held ring k
  same_up_to k l =
      let more = le_on k (front_of c.held ring) (front_of (x ∷ c.held) ring) l (grown x c.held ring) in
      let a = up_to (x ∷ c.held) ring k in
      let b = up_to c.held ring k in
      let whole = in_front (x ∷ c.held) ring in
      let fa : IsListPrefix a whole = up_to_front (x ∷ c.held) ring k more in
      let fb : IsListPrefix b whole = prefix_trans b (in_front c.held ring) whole (up_to_front c.held ring k l) (front_with x c.held ring t.fresh) in
      let la : length a ≡ k = up_to_all (x ∷ c.held) ring k more in
      let lb : length b ≡ k = up_to_all c.held ring k l in
      prefix_whole a b (prefix_shorter a b whole fa fb (omega (arith, la, lb))) (omega (arith, la, lb))

  users_more : (most : ℕ) → most ≤ front c ring → user_messages_between (with_held c (x ∷ c.held)) ring 0 most ≡ user_messages_between c ring 0 most
  users_more most l =
      let e : most - 0 ≡ most = omega arith in
      ap (λ k. filter (λ (y : Message A). is_user y.payload) (filter_map (found (x ∷ c.held) ring) (numbers_from 1 k))) e
      ∙ ap (λ (ys : List (Message A)). filter (λ (y : Message A). is_user y.payload) ys) (same_up_to most l)
      ∙ sym (ap (λ k. filter (λ (y : Message A). is_user y.payload) (filter_map (found c.held ring) (numbers_from 1 k))) e)

-- ---- the state of Recovery

module _ {A : Type 0} (c : Core A) where
  -- nothing changes for the running ring
  recovers_same : (held : List (Message A)) (r : RecoveryState A) → of_ring c.running.ring held ≡ of_ring c.running.ring c.held → Recovers c r
      → Recovers (with_held c held) r
  recovers_same held r same m =
      let ring = c.running.ring in
      let f = sym (same_front ring held c.held same) in
      record {
        part = part_same c held ring r.part.window r.part.visit same m.part;
        plan_is = m.plan_is ∙ ap (λ (xs : List (Message A)). record { me = c.me; plan = plan c; seen = xs }) (sym same);
        ends_is = m.ends_is ∙ sym (same_in_front ring held c.held same);
        deferred_is = m.deferred_is ∙ sym (same_users ring held c.held same 0 r.most);
        deferred_in_front = subst (λ n. r.most ≤ n) f m.deferred_in_front;
        deferred_covers_mark = m.deferred_covers_mark;
        deferred_covers_aru = m.deferred_covers_aru;
        old_safe = m.old_safe;
      }

  module _ (x : Message A) (r : RecoveryState A) (e : x.ring ≡ c.running.ring) (h : takes_number c x.ring x.number ≡ true) (m : Recovers c r) where
    window_with : window_after_take r.part.window x ≡ window_of (with_held c (x ∷ c.held)) c.running.ring
    window_with =
        window_takes c c.running.ring x r.part.window r.part.visit e h m.part
        ∙ (part_more c c.running.ring x (fresh_is c c.running.ring x e h) r.part.window r.part.visit m.part).window_is

    ends_with : window_front (window_after_take r.part.window x) ≡ in_front (x ∷ c.held) c.running.ring
    ends_with = ap window_front window_with ∙ in_front_of_ring c.running.ring (x ∷ c.held)

    -- one more message of the running ring
    recovers_more : Recovers (with_held c (x ∷ c.held)) (with_taken r x)
    recovers_more =
        let ring = c.running.ring in
        let t = fresh_is c ring x e h in
        record {
          part = subst (λ (u : WindowHistory A). IsPart (with_held c (x ∷ c.held)) ring u r.part.visit)
              (sym (window_takes c ring x r.part.window r.part.visit e h m.part)) (part_more c ring x t r.part.window r.part.visit m.part);
          plan_is =
              ap (λ (p : Seen A). with_seen p x) m.plan_is
              ∙ ap (λ (xs : List (Message A)). record { me = c.me; plan = plan c; seen = xs }) (sym (one_of_ring c ring x t));
          ends_is = ends_with;
          deferred_is = m.deferred_is ∙ sym (users_more c ring x t r.most m.deferred_in_front);
          deferred_in_front = le_on r.most (front_of c.held ring) (front_of (x ∷ c.held) ring) m.deferred_in_front (grown x c.held ring);
          deferred_covers_mark = m.deferred_covers_mark;
          deferred_covers_aru = m.deferred_covers_aru;
          old_safe = m.old_safe;
        }

    -- the messages counted so far stay the first of those in the front, and the window still keeps the others
    pub front_taken : IsListPrefix r.ends (window_front (window_after_take r.part.window x))
    front_taken =
        subst (λ (ys : List (Message A)). IsListPrefix r.ends ys) (sym ends_with)
        (subst (λ (ys : List (Message A)). IsListPrefix ys (in_front (x ∷ c.held) c.running.ring)) (sym m.ends_is)
        (front_with x c.held c.running.ring (fresh_is c c.running.ring x e h).fresh))

    pub mark_taken : (window_after_take r.part.window x).mark ≤ length r.ends
    mark_taken =
        let w : (window_after_take r.part.window x).mark ≡ mark c c.running.ring = ap (λ (u : WindowHistory A). u.mark) window_with in
        let n : length r.ends ≡ front_of c.held c.running.ring = ap length m.ends_is
        ∙ up_to_all c.held c.running.ring (front_of c.held c.running.ring) (omega arith) in
        let l : mark c c.running.ring ≤ front_of c.held c.running.ring = m.part.reached in
        subst (λ k. k ≤ length r.ends) (sym w) (subst (λ k. mark c c.running.ring ≤ k) (sym n) l)

-- ---- every state

pub below_more : {A : Type 0} (c : Core A) (x : Message A) (n : ℕ) → x.ring.seq < n → IsBelow c n → IsBelow (with_held c (x ∷ c.held)) n
below_more c x n l b = record { held = (l, b.held); turns = b.turns; raises = b.raises }

-- the installed ring's number is below the bound
installed_below : (s : State) (installed number : ℕ) → installed ≤ number → (is_forming s ≡ true → installed < number) → installed < held_ring_bound s number
installed_below Gather installed number l f = omega (arith, l)
installed_below Commit installed number l f = omega (arith, f refl)
installed_below Recovery installed number l f = omega (arith, l)
installed_below Operational installed number l f = omega (arith, l)
installed_below Stopped installed number l f = omega (arith, l)

running_below : (s : State) (number : ℕ) → s ≡ Recovery → number < held_ring_bound s number
running_below s number e = subst (λ q. number < held_ring_bound q number) (sym e) (let l : number < number + 1 = omega arith in omega (arith, l))

forming : (s : State) → s ≡ Recovery → is_forming s ≡ true
forming s e = ap is_forming e

-- outside Recovery the ring in use is the installed one
pub in_use_installed : {A : Type 0} (s : State) (c : Core A) → (s ≡ Recovery → ⊥) → ring_in_use s c ≡ c.installed.ring
in_use_installed Gather c n = refl
in_use_installed Commit c n = refl
in_use_installed Recovery c n = absurd (n refl)
in_use_installed Operational c n = refl
in_use_installed Stopped c n = refl

-- the test for Recovery
pub is_recovery : (s : State) → sameb the_type s Recovery ≡ true → s ≡ Recovery
is_recovery Gather h = absurd cc
is_recovery Commit h = absurd cc
is_recovery Recovery h = refl
is_recovery Operational h = absurd cc
is_recovery Stopped h = absurd cc

pub no_recovery : (s : State) → sameb the_type s Recovery ≡ false → s ≡ Recovery → ⊥
no_recovery s h e = same_false the_type s Recovery h e

-- in Recovery there is a state of Recovery
pub recovering_some : {A : Type 0} (c : Core A) (recovery : Option (RecoveryState A)) (r : RecoveryState A) → recovery ≡ Some r → IsRecovering c recovery
    → Recovers c r
recovering_some c recovery r e i = subst (λ (o : Option (RecoveryState _)). IsRecovering c o) e i

pub recovering_there : {A : Type 0} (c : Core A) (recovery : Option (RecoveryState A)) → IsRecovering c recovery → ((r : RecoveryState A) → recovery ≡ Some r → ⊥) → ⊥
recovering_there c None i f = i
recovering_there c (Some r) i f = f r refl

pub recovering_none : {A : Type 0} (c : Core A) (recovery : Option (RecoveryState A)) → recovery ≡ None → IsRecovering c recovery → ⊥
recovering_none c recovery e i = subst (λ (o : Option (RecoveryState _)). IsRecovering c o) e i

-- the ring in use is then the running one
pub used_running : {A : Type 0} (c : Core A) (x : Message A) → x.ring ≡ ring_in_use c.state c → c.state ≡ Recovery → x.ring ≡ c.running.ring
used_running c x e s = e ∙ ap (λ q. ring_in_use q c) s

module _ {A : Type 0} {c : Core A} {gather : Gatherer} {window : WindowHistory A} {visit : TokenHistory A} {recovery : Option (RecoveryState A)}
    (m : IsRunningCore c gather window visit recovery) where
  -- outside Recovery a message of the installed ring is held
  pub held_installed : (x : Message A) → (c.state ≡ Recovery → ⊥) → x.ring ≡ ring_in_use c.state c → takes_number c x.ring x.number ≡ true
      → (window' : WindowHistory A) (recovery' : Option (RecoveryState A)) → window' ≡ window_after_take window x → recovery' ≡ None
      → IsRunningCore (with_held c (x ∷ c.held)) gather window' visit recovery'
  held_installed x n e h window' recovery' w none =
      let ring = c.installed.ring in
      let here : x.ring ≡ ring = e ∙ in_use_installed c.state c n in
      let t = fresh_is c ring x here h in
      let l : x.ring.seq < held_ring_bound c.state (floor c) = subst (λ (q : RingId). q.seq < held_ring_bound c.state (floor c)) (sym here)
      (installed_below c.state ring.seq (floor c) m.older m.apart) in
      machine_as m refl refl (subst (λ (u : WindowHistory A). IsPart (with_held c (x ∷ c.held)) ring u visit)
      (sym (w ∙ window_takes c ring x window visit here h m.kept)) (part_more c ring x t window visit m.kept))
      (below_more c x (held_ring_bound c.state (floor c)) l m.below) (λ s. absurd (n s)) (λ q. none)

  -- in Recovery a message of the running ring is held
  pub held_running : (x : Message A) (r : RecoveryState A) → c.state ≡ Recovery → recovery ≡ Some r → x.ring ≡ c.running.ring
      → takes_number c x.ring x.number ≡ true
      → IsRunningCore (with_held c (x ∷ c.held)) gather window visit (Some (with_taken r x))
  held_running x r s some e h =
      let ring = c.running.ring in
      let old = c.installed.ring in
      let apart : old.seq < ring.seq = m.apart (forming c.state s) in
      let other : same_ring x.ring old ≡ false = subst (λ (q : RingId). same_ring q old ≡ false) (sym e) (higher_other ring old apart) in
      let l : x.ring.seq < held_ring_bound c.state (floor c) = subst (λ (q : RingId). q.seq < held_ring_bound c.state (floor c)) (sym e) (running_below c.state ring.seq s) in
      machine_as m refl refl (part_same c (x ∷ c.held) old window visit (not_of_ring old x c.held other) m.kept)
      (below_more c x (held_ring_bound c.state (floor c)) l m.below) (λ q. recovers_more c x r e h (recovering_some c recovery r some (m.recovery_state s)))
      (λ n. absurd (n s))

  -- and one of the old ring
  held_old : (y : Message A) → c.state ≡ Recovery → y.ring ≡ c.installed.ring → takes_number c y.ring y.number ≡ true
      → IsRunningCore (with_held c (y ∷ c.held)) gather (record window { held = y ∷ window.held }) visit recovery
  held_old y s e h =
      let ring = c.running.ring in
      let old = c.installed.ring in
      let apart : old.seq < ring.seq = m.apart (forming c.state s) in
      let other : same_ring y.ring ring ≡ false = subst (λ (q : RingId). same_ring q ring ≡ false) (sym e) (lower_other old ring apart) in
      let l : y.ring.seq < held_ring_bound c.state (floor c) = subst (λ (q : RingId). q.seq < held_ring_bound c.state (floor c)) (sym e)
      (installed_below c.state old.seq (floor c) m.older m.apart) in
      machine_as m refl refl (part_more c old y (fresh_is c old y e h) window visit m.kept) (below_more c y (held_ring_bound c.state (floor c)) l m.below)
      (λ q. recovering_on recovery (m.recovery_state q) (not_of_ring ring y c.held other)) m.over
    where
      recovering_on : (o : Option (RecoveryState A)) → IsRecovering c o → of_ring c.running.ring (y ∷ c.held) ≡ of_ring c.running.ring c.held
          → IsRecovering (with_held c (y ∷ c.held)) o
      recovering_on None i same = i
      recovering_on (Some r) i same = recovers_same c (y ∷ c.held) r same i

  -- the inner messages of a payload
  held_inner : (payload : Payload A) → c.state ≡ Recovery
      → IsRunningCore (with_held c (inner_messages c.installed.ring (mark c c.installed.ring) c.held payload ++ c.held)) gather
      (record window { held = inner_messages c.installed.ring (mark c c.installed.ring) c.held payload ++ window.held }) visit recovery
  held_inner (Call call) s = m
  held_inner End s = m
  held_inner (Head head) s = m
  held_inner (Part part) s = m
  held_inner (Pack pack) s = m
  held_inner (Snap snap) s = m
  held_inner (Wrapped w) s =
      let old = c.installed.ring in
      let y : Message A = inner_message w in
      let test = same_ring w.ring old && is_new c.held (mark c old) old w.number in
      elim (cases_Bool test) [
        | inr other ↦ subst (λ (ys : List (Message A)). IsRunningCore (with_held c (ys ++ c.held)) gather
            (record window { held = ys ++ window.held }) visit recovery) (sym (cond-false test (y ∷ []) [] other)) m
        | inl same ↦
            let both = and_parts (same_ring w.ring old) (is_new c.held (mark c old) old w.number) same in
            let e : y.ring ≡ old = ring_same w.ring old both.0 in
            subst (λ (ys : List (Message A)). IsRunningCore (with_held c (ys ++ c.held)) gather (record window { held = ys ++ window.held }) visit recovery)
            (sym (cond-true test (y ∷ []) [] same))
            (held_old y s e (subst (λ (q : RingId). takes_number c q y.number ≡ true) (sym e) both.1))
      ]

-- the inner messages of a payload are the same once another message of the running ring is held
unwrapped_still : {A : Type 0} (old : RingId) (mark : ℕ) (x : Message A) (held : List (Message A)) (payload : Payload A) → same_ring x.ring old ≡ false
    → inner_messages old mark (x ∷ held) payload ≡ inner_messages old mark held payload
unwrapped_still {A} old mark x held payload other =
    sym (unwrapped_of_ring old mark (x ∷ held) payload) ∙ ap (λ (xs : List (Message A)). inner_messages old mark xs payload) (not_of_ring old x held other)
    ∙ unwrapped_of_ring old mark held payload

-- the old ring's window has the inner messages of a payload
pub inner_by : {A : Type 0} (c : Core A) (w : WindowHistory A) (v : TokenHistory A) (payload : Payload A) → IsPart c c.installed.ring w v
    → inner_of w payload ≡ inner_messages c.installed.ring (mark c c.installed.ring) c.held payload
inner_by {A} c w v payload p = ap (λ (u : WindowHistory A). inner_of u payload) p.window_is
    ∙ unwrapped_of_ring c.installed.ring (mark c c.installed.ring) c.held payload

module _ {A : Type 0} {c : Core A} {gather : Gatherer} {window : WindowHistory A} {visit : TokenHistory A} {recovery : Option (RecoveryState A)}
    (m : IsRunningCore c gather window visit recovery) where
  -- in Recovery a message of the running ring is held, and its inner message is held as newer
  pub held_both : (x : Message A) (r : RecoveryState A) (window' : WindowHistory A) (top : ℕ) (held : List (Message A)) → c.state ≡ Recovery → recovery ≡ Some r
      → x.ring ≡ c.running.ring
      → takes_number c x.ring x.number ≡ true → window' ≡ with_inner window x.payload → top ≡ window.mark
      → held ≡ inner_messages c.installed.ring top c.held x.payload ++ x ∷ c.held
      → IsRunningCore (with_held c held) gather window' visit (Some (with_taken r x))
  held_both x r window' top held s some e h w t same =
      let old = c.installed.ring in
      let apart : old.seq < c.running.ring.seq = m.apart (forming c.state s) in
      let other : same_ring x.ring old ≡ false = subst (λ (q : RingId). same_ring q old ≡ false) (sym e) (higher_other c.running.ring old apart) in
      let still = unwrapped_still old (mark c old) x c.held x.payload other in
      let inner : inner_of window x.payload ≡ inner_messages old (mark c old) (x ∷ c.held) x.payload = inner_by c window visit x.payload m.kept ∙ sym still in
      let wide : window' ≡ record window { held = inner_messages old (mark c old) (x ∷ c.held) x.payload ++ window.held } = w
      ∙ ap (λ (ys : List (Message A)). record window { held = ys ++ window.held }) inner in
      let all : held ≡ inner_messages old (mark c old) (x ∷ c.held) x.payload ++ x ∷ c.held = same
      ∙ ap (λ n. inner_messages old n c.held x.payload ++ x ∷ c.held) (t ∙ ap (λ (u : WindowHistory A). u.mark) m.kept.window_is)
      ∙ ap (λ (ys : List (Message A)). ys ++ x ∷ c.held) (sym still) in
      subst (λ (ys : List (Message A)). IsRunningCore (with_held c ys) gather window' visit (Some (with_taken r x))) (sym all)
      (subst (λ (u : WindowHistory A). IsRunningCore (with_held c (inner_messages old (mark c old) (x ∷ c.held) x.payload ++ x ∷ c.held)) gather u visit
      (Some (with_taken r x))) (sym wide)
      (held_inner (held_running m x r s some e h) x.payload s))

  -- the contents of the two requirements on the state of Recovery
  pub front_there : (x : Message A) (r : RecoveryState A) → c.state ≡ Recovery → recovery ≡ Some r → x.ring ≡ c.running.ring
      → takes_number c x.ring x.number ≡ true
      → IsListPrefix r.ends (window_front (window_after_take r.part.window x))
  front_there x r s some e h = front_taken c x r e h (recovering_some c recovery r some (m.recovery_state s))

  pub mark_there : (x : Message A) (r : RecoveryState A) → c.state ≡ Recovery → recovery ≡ Some r → x.ring ≡ c.running.ring → takes_number c x.ring x.number ≡ true
      → (window_after_take r.part.window x).mark ≤ length r.ends
  mark_there x r s some e h = mark_taken c x r e h (recovering_some c recovery r some (m.recovery_state s))

-- ---- a taken message

-- its ring is the one in use
taken_in_use : {A : Type 0} (s : State) (c : Core A) (ring : RingId) → (s ≡ Operational → c.installed ≡ c.running) → takes_of s c ring ≡ true
    → ring ≡ ring_in_use s c
taken_in_use Gather c ring o h = ring_same ring c.installed.ring (and_parts (same_ring ring c.installed.ring) (floor c == ring.seq) h).0
taken_in_use Commit c ring o h = absurd cc
taken_in_use Recovery c ring o h = ring_same ring c.running.ring h
taken_in_use Operational c ring o h = ring_same ring c.running.ring h ∙ sym (ap (λ (q : Configuration). q.ring) (o refl))
taken_in_use Stopped c ring o h = absurd cc

module _ {A : Type 0} (c : Core A) (x : Message A) (h : is_taken c x ≡ true) where
  tests : ((takes_of c.state c x.ring && has (members_of c.state c) x.sender) ≡ true) × (takes_number c x.ring x.number ≡ true)
  tests = and_parts (takes_of c.state c x.ring && has (members_of c.state c) x.sender) (takes_number c x.ring x.number) h

  pub taken_new : takes_number c x.ring x.number ≡ true
  taken_new = tests.1

  pub taken_used : (c.state ≡ Operational → c.installed ≡ c.running) → x.ring ≡ ring_in_use c.state c
  taken_used o = taken_in_use c.state c x.ring o (and_parts (takes_of c.state c x.ring) (has (members_of c.state c) x.sender) tests.0).0

  pub taken_running : (c.state ≡ Operational → c.installed ≡ c.running) → c.state ≡ Recovery → x.ring ≡ c.running.ring
  taken_running o s = used_running c x (taken_used o) s

-- outside Recovery there is no inner message
pub none_old : {A : Type 0} (s : State) (c : Core A) (x : Message A) → (s ≡ Recovery → ⊥) → old_ring_messages s c x ≡ []
none_old Gather c x n = refl
none_old Commit c x n = refl
none_old Recovery c x n = absurd (n refl)
none_old Operational c x n = refl
none_old Stopped c x n = refl

-- a message is taken, in Recovery and elsewhere
pub took_other : {A : Type 0} (c : Core A) (x : Message A) → (c.state ≡ Recovery → ⊥) → with_held c (x ∷ c.held) ≡ message_taken c x
took_other c x n = ap (λ (ys : List (Message _)). with_held c (ys ++ x ∷ c.held)) (sym (none_old c.state c x n))

module _ {A : Type 0} {c : Core A} {gather : Gatherer} {window : WindowHistory A} {visit : TokenHistory A} {recovery : Option (RecoveryState A)}
    (m : IsRunningCore c gather window visit recovery) where
  pub took_both : (x : Message A) (top : ℕ) → c.state ≡ Recovery → top ≡ window.mark
      → with_held c (inner_messages c.installed.ring top c.held x.payload ++ x ∷ c.held) ≡ message_taken c x
  took_both x top s t =
      ap (λ n. with_held c (inner_messages c.installed.ring n c.held x.payload ++ x ∷ c.held)) (t ∙ ap (λ (u : WindowHistory A). u.mark) m.kept.window_is)
      ∙ sym (ap (λ q. with_held c (old_ring_messages q c x ++ x ∷ c.held)) s)
