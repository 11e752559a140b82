-- The user messages that a window keeps of its ring are those of the core.
use Rattle.std.proofs.Common.{◌≡◌, ℕ, ◌+◌, ◌-◌, map, filter, filter_map, Option, ap, ◌∙◌}
use Rattle.ring_base.specs.Numbers.{numbers_from}
use Rattle.ring_base.specs.declared.ring_id.RingId.{RingId}
use Rattle.ring_payload.specs.PayloadKinds.{is_user}
use Rattle.ring_wire.specs.declared.message.Message.{Message}
use Rattle.ring_window.specs.Held.{of_ring, front_of}
use Rattle.ring_window.specs.Windows.{WindowHistory}
use Rattle.ring_window.proofs.OfRing.{front_of_ring, all_found}
use Rattle.ring_token.specs.Histories.{TokenHistory}
use Rattle.ring_core_spec.specs.declared.out.Out.TheVariants.{Agreed}
use Rattle.ring_core_spec.specs.State.{Core}
use Rattle.ring_core_spec.specs.Views.{front, mark}
use Rattle.ring_core_spec.specs.Giving.{user_messages_between, agreed_from, safe_from}
use Rattle.ring_srp_state.specs.Users.{users_in, agreed_in, safe_to}
use Rattle.ring_srp_transitions.specs.RunningCores.{IsPart, window_of}

pub users_of : {A : Type 0} (c : Core A) (ring : RingId) (below upto : ℕ) → users_in (window_of c ring) below upto ≡ user_messages_between c ring below upto
users_of {A} c ring below upto = ap (λ (h : ℕ → Option (Message A)). filter (λ (x : Message A). is_user x.payload)
    (filter_map h (numbers_from (below + 1) (upto - below)))) (all_found c.held ring)

agreed_of_ring : {A : Type 0} (c : Core A) (ring : RingId) (below : ℕ) →
    agreed_in (window_of c ring) below (front_of (of_ring ring c.held) ring) ≡ agreed_from c ring below
agreed_of_ring {A} c ring below =
    ap (λ n. agreed_in (window_of c ring) below n) (front_of_ring c.held ring)
    ∙ ap (map (λ (y : Message A). Agreed ring y.number y)) (users_of c ring below (front c ring))

pub agreed_by : {A : Type 0} (c : Core A) (ring : RingId) (w : WindowHistory A) (visit : TokenHistory A) (below : ℕ) → IsPart c ring w visit →
    agreed_in w below (front_of w.held w.ring) ≡ agreed_from c ring below
agreed_by {A} c ring w visit below p = ap (λ (v : WindowHistory A). agreed_in v below (front_of v.held v.ring)) p.window_is ∙ agreed_of_ring c ring below

pub safe_by : {A : Type 0} (c : Core A) (ring : RingId) (w : WindowHistory A) (visit : TokenHistory A) (before : ℕ) → IsPart c ring w visit →
    safe_to w.ring before w.mark ≡ safe_from c ring before
safe_by {A} c ring w visit before p = ap (λ (v : WindowHistory A). safe_to v.ring before v.mark) p.window_is

pub front_by : {A : Type 0} (c : Core A) (ring : RingId) (w : WindowHistory A) (visit : TokenHistory A) → IsPart c ring w visit →
    front_of w.held w.ring ≡ front c ring
front_by {A} c ring w visit p = ap (λ (v : WindowHistory A). front_of v.held v.ring) p.window_is ∙ front_of_ring c.held ring

pub mark_of_part : {A : Type 0} (c : Core A) (ring : RingId) (w : WindowHistory A) (visit : TokenHistory A) → IsPart c ring w visit → w.mark ≡ mark c ring
mark_of_part {A} c ring w visit p = ap (λ (v : WindowHistory A). v.mark) p.window_is
