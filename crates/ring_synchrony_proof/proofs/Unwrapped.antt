-- Each installed ring has every member's End in the front; and in Recovery each inner message of the old ring is
-- held.

-- It is taken with its Wrapped, since the known numbers lie within the window after the greatest mark.
use Rattle.std.proofs.Common.{◌≡◌, ℕ, ◌+◌, ◌<◌, ◌≤◌, inl, inr, true, ◌||◌, ◌==◌, List, ap, sym, subst, arith}
use Rattle.std.specs.List.{AllByRecursion as Each}
use Rattle.std.proofs.lemmas.Bool.{and_parts, eqb-true}
use Rattle.ring_base.specs.Numbers.{numbers_from}
use Rattle.ring_base.specs.Processors.{elements}
use Rattle.ring_base.specs.declared.ring_id.RingId.{RingId}
use Rattle.ring_base.proofs.Each.{each-filter_map}
use Rattle.ring_payload.specs.PayloadKinds.{is_end}
use Rattle.ring_wire.specs.declared.frame.Frame.{Frame}
use Rattle.ring_wire.specs.declared.message.Message.{Message}
use Rattle.ring_core_spec.specs.Windows.{found, front_of}
use Rattle.ring_core_spec.specs.Commits.{Configuration}
use Rattle.ring_core_spec.specs.Recoveries.{in_front, ends, has_end_of, all_ended, is_covered, has_user, is_ready}
use Rattle.ring_core_spec.specs.State.{Core, opening}
use Rattle.ring_core_spec.specs.Views.{front, mark}
use Rattle.ring_core_proof.specs.FactWords.{IsIn}
use Rattle.ring_core_proof.specs.declared.event.RingEvent.{RingEvent}
use Rattle.ring_core_proof.specs.Worlds.{run, unformed}
use Rattle.ring_core_proof.specs.Moves.{Move, Idles, Enters, Learns, Visits, Takes, Installs, core_after_move, MayMove}
use Rattle.ring_core_proof.proofs.InLists.{in-each, each-in, any-some, in-filtered}
use Rattle.ring_core_proof.proofs.KeptByMoves.{everywhere}
use Rattle.ring_core_proof.proofs.OwnMessages.{held_stays}
use Rattle.ring_chain_proof.proofs.FactsGrow.{moved_grows}
use Rattle.ring_synchrony_proof.proofs.Quantified.{all_decides, numbers_in}
use Rattle.ring_synchrony_proof.specs.Recovery.{HoldsEnd, HoldsEnds}
use Rattle.ring_synchrony_proof.proofs.UserMessages.{found_as}

-- Ends of an installed ring

end_stays : {A : Type 0} → (c : Core A) (m : Move A) (ring : RingId) (i : ℕ) → HoldsEnd c ring i → HoldsEnd (core_after_move c m) ring i
end_stays c m ring i e =
    let g = (moved_grows c m).fronts ring in
    let w = e.within in
    record {
      message = e.message;
      held = held_stays c m e.message e.held;
      ring_is = e.ring_is;
      sender = e.sender;
      ended = e.ended;
      within = omega (arith, g, w);
    }

-- a message in the front is held
front_held : {A : Type 0} → (held : List (Message A)) (ring : RingId)
    → Each (λ (x : Message A). IsIn x held × (x.ring ≡ ring) × (x.number ≤ front_of held ring)) (in_front held ring)
front_held {A} held ring =
    let f = front_of held ring in
    each-filter_map (λ n. n < 1 + f) (λ (x : Message A). IsIn x held × (x.ring ≡ ring) × (x.number ≤ f)) (found held ring)
    (λ n x l e. (let g = found_as held ring n x e in let q = g.number_is in (g.there, g.ring_is, omega (arith, q, l)))) (numbers_from 1 f)
    (each-in (λ n. n < 1 + f) (numbers_from 1 f) (λ n j. (numbers_in n 1 f j).1))

pub ready_ends : {A : Type 0} → (c : Core A) → is_ready c.held c.running.ring c.running.members (mark c c.running.ring) ≡ true → (i : ℕ) →
    IsIn i (elements c.running.members) → HoldsEnd c c.running.ring i
ready_ends {A} c ready i j =
    let xs = in_front c.held c.running.ring in
    let all : all_ended xs c.running.members ≡ true =
    (and_parts (all_ended xs c.running.members) (is_covered xs (mark c c.running.ring) || has_user xs) ready).0 in
    let one : has_end_of xs i ≡ true = (all_decides (has_end_of xs) (λ k. has_end_of xs k ≡ true)
    (λ k. (λ h. h, λ h. h)) (elements c.running.members)).0 all i j in
    let s = any-some (λ (x : Message A). x.sender == i) (ends xs) one in
    let e = in-filtered (λ (x : Message A). is_end x.payload) s.0 xs s.1 in
    let h = in-each (λ (x : Message A). IsIn x c.held × (x.ring ≡ c.running.ring)
    × (x.number ≤ front c c.running.ring)) s.0 xs (front_held c.held c.running.ring) e.0 in
    record { message = s.0; held = h.0; ring_is = h.1; sender = eqb-true (s.0).sender i s.2; ended = e.1; within = h.2 }

pub moved_ends : {A : Type 0} → (received : Frame A → Type 0) (c : Core A) (m : Move A) → MayMove received c m → HoldsEnds c → HoldsEnds (core_after_move c m)
moved_ends received c (Idles state gathering last_sent queue sends) may h at j l i k = end_stays c (Idles state gathering last_sent queue sends) at.ring i (h at j l i k)
moved_ends received c (Enters q) may h at j l i k = end_stays c (Enters q) at.ring i (h at j l i k)
moved_ends received c (Learns q) may h at j l i k = end_stays c (Learns q) at.ring i (h at j l i k)
moved_ends received c (Visits t fresh requests again queue) may h at j l i k = end_stays c (Visits t fresh requests again queue) at.ring i (h at j l i k)
moved_ends received c (Takes x) may h at j l i k = end_stays c (Takes x) at.ring i (h at j l i k)
moved_ends {A} received c Installs may h at (inl e) l i k =
    let here = ready_ends c may.ready i (subst (λ (x : Configuration). IsIn i (elements x.members)) e k) in
    subst (λ (x : Configuration). HoldsEnd (core_after_move c Installs) x.ring i) (sym e) (end_stays c Installs c.running.ring i here)
moved_ends received c Installs may h at (inr j) l i k = end_stays c Installs at.ring i (h at j l i k)

pub opening_ends : (A : Type 0) → (n me : ℕ) → HoldsEnds (opening {A = A} n me)
opening_ends A n me at (inl e) l i k = absurd (let q : at.ring.seq ≡ 0 = ap (λ (x : Configuration). x.ring.seq) e in omega (arith, q, l))
opening_ends A n me at (inr none) l i k = absurd none

pub all_hold_ends : {A : Type 0} → (n : ℕ) (events : List (RingEvent A)) (q : ℕ) → HoldsEnds ((run (unformed n) events).cores q)
all_hold_ends {A} n events q = everywhere HoldsEnds (record { moves = moved_ends }) (unformed n) events (λ i. opening_ends A n i) q
