-- Frames are only added: a continued world keeps its frames, and the pump keeps its open copies.
use Rattle.std.proofs.Common.{◌≡◌, ℕ, suc, ◌+◌, ◌-◌, ◌^◌, Bool, true, false, List, [], ◌∷◌, ◌++◌}
use Rattle.std.proofs.Common.{length, drop, Option, Some, None, refl, sym, ap, subst, ◌∙◌, arith, append_assoc}
use Rattle.std.proofs.Common.{zero-add}
use Rattle.std.proofs.lemmas.List.{drop-append-le, drop_at, length-drop}
use Rattle.ring_base.specs.Prefixes.{IsListPrefix, prefix_self, prefix_trans, prefix_length}
use Rattle.ring_base.specs.Processors.{has}
use Rattle.ring_base.specs.declared.fault.Fault.{Fault}
use Rattle.ring_base.proofs.ListFronts.{take-append-front}
use Rattle.ring_object.specs.Operations.{Sequential}
use Rattle.ring_payload.specs.declared.call.Call.{Call}
use Rattle.ring_core_spec.specs.State.{Transmission, frame_at}
use Rattle.ring_node_spec.specs.declared.input.Input.{Input}
use Rattle.ring_node_spec.specs.declared.input.Input.TheVariants.{Frame as FrameInput, Timeout as TimeInput}
use Rattle.ring_node_spec.specs.Stepping.{node_step, submit_fault}
use Rattle.ring_node_spec.specs.declared.event.Event.{Event}
use Rattle.ring_node_spec.specs.declared.event.Event.TheVariants.{Issue, Deliver, Noise, Timeout, Stop}
use Rattle.ring_node_spec.specs.Worlds.{World, carried_frames, world_after_submit, world_after_submit_if_member, world_after_stop_if_member, world_after_input_if_member}
use Rattle.ring_node_spec.specs.Worlds.{world_after_receipt_if_sent, world_after_delivery, is_node, world_after_event, run}
use Rattle.ring_world.specs.declared.open_copies.OpenCopies.{OpenCopies}
use Rattle.ring_world.specs.OpenCopies.{frames_of, copies_of_frame, copies_after, within_reach, all_copies, opened_since, open_copies_from, IsReached}
use Rattle.ring_world.specs.WorldView.{WorldView, world_of, IsRunOfEvents}
use Rattle.ring_world.proofs.Playing.{plays_longer, world_later}

-- ---- frames

module _ {O A : Type 0} (object : Sequential O) where
  module _ (w : World A) where
    refused : (o : Option Fault) (i : ℕ) (c : Call A) → IsListPrefix w.frames (world_after_submit o w i c).frames
    refused (Some fault) i c = prefix_self w.frames
    refused None i c = prefix_self w.frames

    issued : (b : Bool) (i : ℕ) (c : Call A) → IsListPrefix w.frames (world_after_submit_if_member b w i c).frames
    issued false i c = prefix_self w.frames
    issued true i c = refused (submit_fault (w.nodes i)) i c

    steps : (b : Bool) (i : ℕ) (input : Input A) → IsListPrefix w.frames (world_after_input_if_member object b w i input).frames
    steps false i input = prefix_self w.frames
    steps true i input = (carried_frames i (node_step object (w.nodes i) input).sends, refl)

    comes_if : (b : Bool) (i : ℕ) (f : Transmission A) → IsListPrefix w.frames (world_after_receipt_if_sent object b w i f.frame).frames
    comes_if false i f = prefix_self w.frames
    comes_if true i f = steps (is_node w i) i (FrameInput f.frame)

    comes : (o : Option (Transmission A)) (i : ℕ) → IsListPrefix w.frames (world_after_delivery object w i o).frames
    comes None i = prefix_self w.frames
    comes (Some f) i = comes_if (has f.to i) i f

    stops : (b : Bool) (i : ℕ) → IsListPrefix w.frames (world_after_stop_if_member b w i).frames
    stops false i = prefix_self w.frames
    stops true i = prefix_self w.frames

    event_frames : (e : Event A) → IsListPrefix w.frames (world_after_event object w e).frames
    event_frames (Issue i c) = issued (is_node w i) i c
    event_frames (Deliver i k) = comes (frame_at w.frames k) i
    event_frames (Noise i bytes) = prefix_self w.frames
    event_frames (Timeout i kind) = steps (is_node w i) i (TimeInput kind)
    event_frames (Stop i) = stops (is_node w i) i

  run_frames : (w : World A) (es : List (Event A)) → IsListPrefix w.frames (run object w es).frames
  run_frames w [] = prefix_self w.frames
  run_frames w (e ∷ es) = prefix_trans w.frames (world_after_event object w e).frames (run object (world_after_event object w e) es).frames
      (event_frames w e) (run_frames (world_after_event object w e) es)

  -- frames stay as a run continues
  pub plays_frames : (es : List (Event A)) (p q : WorldView A) → IsRunOfEvents object es p q → IsListPrefix (frames_of object p) (frames_of object q)
  plays_frames es p q plays =
      let more = plays_longer object es p q plays in
      subst (λ (w : World A). IsListPrefix (world_of object p).frames w.frames) (sym (world_later object p q more)) (run_frames (world_of object p) more.later)

-- ---- copies

reach_front : {A : Type 0} (frames frames' : List (Transmission A)) → IsListPrefix frames frames' → IsListPrefix (within_reach frames) (within_reach frames')
reach_front frames frames' f = subst (λ fs. IsListPrefix (within_reach frames) (within_reach fs)) f.1 (take-append-front (2 ^ 64 - 1) frames f.0)

open_copies-append : {A : Type 0} (n : ℕ) (xs ys : List (Transmission A)) → copies_after n (xs ++ ys) ≡ copies_after n xs ++ copies_after (n + length xs) ys
open_copies-append n [] ys = let none : n ≡ n + 0 = omega arith in ap (λ k. copies_after k ys) none
open_copies-append n (x ∷ xs) ys =
    let next : suc n + length xs ≡ n + length (x ∷ xs) = omega arith in
    ap (λ zs. copies_of_frame (suc n) x.from x.to ++ zs) (open_copies-append (suc n) xs ys ∙ ap (λ k. copies_after (suc n) xs ++ copies_after k ys) next)
    ∙ sym (append_assoc (copies_of_frame (suc n) x.from x.to) (copies_after (suc n) xs) (copies_after (n + length (x ∷ xs)) ys))

-- the copies that further frames open
opened_by : {A : Type 0} (xs ys more : List (Transmission A)) → within_reach ys ≡ within_reach xs ++ more
    → opened_since xs ys ≡ copies_after (length (within_reach xs)) more
opened_by xs ys more is =
    let all : all_copies ys ≡ all_copies xs ++ copies_after (length (within_reach xs)) more =
    ap (λ fs. copies_after 0 fs) is ∙ (open_copies-append 0 (within_reach xs) more
    ∙ ap (λ k. all_copies xs ++ copies_after k more) (zero-add (length (within_reach xs)))) in
    ap (λ ps. drop (length (all_copies xs)) ps) all ∙ drop_at (all_copies xs) (copies_after (length (within_reach xs)) more) (length (all_copies xs)) refl

-- the open copies after further frames were sent
pub open_later : {A : Type 0} (p : OpenCopies) (xs ys : List (Transmission A)) → IsListPrefix xs ys → IsReached p xs → open_copies_from p ys ≡ open_copies_from p xs ++ opened_since xs ys
open_later p xs ys f reached =
    let whole = reach_front xs ys f in
    let reach = within_reach xs in
    let place : p.reached_frame + length (drop p.reached_frame reach) ≡ length reach = omega (arith, length-drop p.reached_frame reach, reached) in
    let left : drop p.reached_frame (within_reach ys) ≡ drop p.reached_frame reach ++ whole.0 = ap (λ fs. drop p.reached_frame fs)
    (sym whole.1) ∙ drop-append-le p.reached_frame reach whole.0 reached in
    let behind : copies_after p.reached_frame (drop p.reached_frame (within_reach ys)) ≡ copies_after p.reached_frame (drop p.reached_frame reach) ++ opened_since xs ys =
    ap (λ fs. copies_after p.reached_frame fs) left
    ∙ (open_copies-append p.reached_frame (drop p.reached_frame reach) whole.0
    ∙ (ap (λ k. copies_after p.reached_frame (drop p.reached_frame reach) ++ copies_after k whole.0) place
    ∙ ap (λ ps. copies_after p.reached_frame (drop p.reached_frame reach) ++ ps) (sym (opened_by xs ys whole.0 (sym whole.1))))) in
    ap (λ ps. copies_of_frame p.reached_frame p.sender p.open_receivers ++ ps) behind
    ∙ sym (append_assoc (copies_of_frame p.reached_frame p.sender p.open_receivers) (copies_after p.reached_frame (drop p.reached_frame reach))
    (opened_since xs ys))

pub reached_later : {A : Type 0} (p : OpenCopies) (xs ys : List (Transmission A)) → IsListPrefix xs ys → IsReached p xs → IsReached p ys
reached_later p xs ys f reached = omega (arith, reached, prefix_length (within_reach xs) (within_reach ys) (reach_front xs ys f))
