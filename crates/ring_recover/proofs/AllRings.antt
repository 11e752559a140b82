-- A node keeps the messages of all rings in one list, a window those of one ring. Recovery's questions about the old
-- and the new ring have the same answers for both.
use Rattle.std.proofs.Common.{◌≡◌, ℕ, ◌+◌, ◌-◌, Bool, List, [], ◌∷◌, filter, filter_map, Option, Some, None, ap, ◌∙◌}
use Rattle.std.specs.Prelude.{not, ◌&&◌, nat_le, nat_lt, if◌then◌else◌}
use Rattle.std.specs.List.{list_all}
use Rattle.ring_base.specs.Numbers.{numbers_from}
use Rattle.ring_base.specs.Rings.{same_ring}
use Rattle.ring_base.specs.declared.ring_id.RingId.{RingId}
use Rattle.ring_window.specs.Payloads.{payload_of, Wrapped as WrappedMessage}
use Rattle.ring_window.specs.Messages.{Message}
use Rattle.ring_window.specs.Held.{found, holds, of_ring, highest, front_of}
use Rattle.ring_window.proofs.OfRing.{highest_of_ring, front_of_ring, is_new_of_ring, all_of_ring, all_found}
use Rattle.ring_recover.specs.Plans.{Plan, safe, low, gap, known_above_safe}
use Rattle.ring_recover.specs.Wrapping.{is_wrapped, left_to_wrap, inner_if_new}
use Rattle.ring_recover.specs.Installing.{in_front}
use Rattle.ring_recover.specs.Deliveries.{is_complete, is_from_transitional_member_if_there, regular_part, transitional_part, past_gap_part, delivery, finish}

-- Wrapping

pub left_of_ring : {A : Type 0} (p : Plan) (fresh held : List (Message A)) → left_to_wrap p fresh (of_ring p.old held) ≡ left_to_wrap p fresh held
left_of_ring {A} p fresh held =
    ap (λ (f : ℕ → Option (Message A)). filter
    (λ (x : Message A). not (is_wrapped fresh p.old x.number)) (filter_map f (numbers_from (low p + 1) (highest
    (of_ring p.old held) p.old - low p)))) (all_found held p.old)
    ∙ ap (λ n. filter (λ (x : Message A). not (is_wrapped fresh p.old x.number)) (filter_map (found held p.old) (numbers_from (low p + 1)
    (n - low p)))) (highest_of_ring held p.old)

-- the inner message that a message of the new ring adds to the old window
pub inner_of_ring : {A : Type 0} (old : RingId) (mark : ℕ) (held : List (Message A)) (w : WrappedMessage A)
    → inner_if_new old mark (of_ring old held) w ≡ inner_if_new old mark held w
inner_of_ring {A} old mark held w =
    ap (λ b. if same_ring w.ring old && b then record {
      ring = w.ring;
      number = w.number;
      sender = w.sender;
      payload =
          payload_of w.payload;
    } ∷ [] else []) (is_new_of_ring held mark old w.number)

-- Deliveries

pub complete_of_ring : {A : Type 0} (p : Plan) (held : List (Message A)) → is_complete p (of_ring p.old held) ≡ is_complete p held
complete_of_ring p held =
    ap (λ n. nat_le (safe p) n && list_all (holds (of_ring p.old held) p.old) (known_above_safe p)) (front_of_ring held p.old)
    ∙ ap (λ (t : ℕ → Bool). nat_le (safe p) (front_of held p.old) && list_all t (known_above_safe p)) (all_of_ring held p.old)

past_gap_of_ring : {A : Type 0} (p : Plan) (held : List (Message A)) → past_gap_part p (of_ring p.old held) ≡ past_gap_part p held
past_gap_of_ring {A} p held = ap (λ (f : ℕ → Option (Message A)). filter
    (λ n. is_from_transitional_member_if_there p (f n)) (filter (nat_lt (gap p)) (known_above_safe p))) (all_found held p.old)

pub finish_of_ring : {A : Type 0} (p : Plan) (held : List (Message A)) → finish p (of_ring p.old held) ≡ finish p held
finish_of_ring p held =
    ap (λ b. if b then Some (delivery p (of_ring p.old held)) else None) (complete_of_ring p held)
    ∙ ap (λ (ns : List ℕ). if is_complete p held then Some (record {
      regular = regular_part p;
      transitional = transitional_part p;
      past_gap =
          ns;
    }) else None) (past_gap_of_ring p held)

-- When the ring is installed

pub in_front_of_ring : {A : Type 0} (ring : RingId) (held : List (Message A)) → in_front (of_ring ring held) ring ≡ in_front held ring
in_front_of_ring {A} ring held =
    ap (λ (f : ℕ → Option (Message A)). filter_map f (numbers_from 1 (front_of (of_ring ring held) ring))) (all_found held ring)
    ∙ ap (λ n. filter_map (found held ring) (numbers_from 1 n)) (front_of_ring held ring)
