-- A property of all cores and all frames sent that each move of one core keeps holds in every world after all events.
use Rattle.std.proofs.Common.{◌≡◌, ℕ, ◌≤◌, Bool, true, false, ◌==◌, cond, List, [], ◌∷◌, ◌++◌, map, Option, Some, None}
use Rattle.std.proofs.Common.{inl, inr, refl, ap, sym, ◌∙◌, subst, append-nil, append_assoc}
use Rattle.std.specs.Prelude.{not, filter, filter_map, nat_le, nat_lt, suc, zero}
use Rattle.std.specs.List.{AllByRecursion as Each, cons_option}
use Rattle.std.proofs.Math.Path.{fun_ext}
use Rattle.std.proofs.lemmas.Bool.{cond_both, and_parts, eqb-true, eq-eqb, cond-true, leb-true}
use Rattle.std.proofs.lemmas.List.{map-append}
use Rattle.std.proofs.lemmas.List.Elements.{filter-append, filter_map-append}
use Rattle.ring_base.specs.Processors.{nobody, has}
use Rattle.ring_base.specs.declared.ring_id.RingId.{RingId}
use Rattle.ring_base.specs.declared.state.State.TheVariants.{Stopped}
use Rattle.ring_base.proofs.Each.{each-append, each-map}
use Rattle.ring_wire.specs.declared.frame.Frame.{Frame}
use Rattle.ring_core_spec.specs.declared.input.Input.{Input}
use Rattle.ring_core_spec.specs.declared.input.Input.TheVariants.{Frame as FrameInput, Timeout as TimeInput, Send as SendInput}
use Rattle.ring_core_spec.specs.declared.out.Out.{Out}
use Rattle.ring_core_spec.specs.declared.out.Out.TheVariants.{Send as SendOut, Agreed, Safe, Rest, Regular}
use Rattle.ring_core_spec.specs.State.{Core, OutgoingFrame, halted, frame_at}
use Rattle.ring_core_spec.specs.Giving.{may_install, install, sends_with_receivers, sent, user_messages_between, agreed_from, safe_from, delivered_from, agreed_and_safe_of_step, installation_outputs, with_installation_if}
use Rattle.ring_core_spec.specs.Stepping.{ring_step}
use Rattle.ring_core_spec.specs.Views.{front, mark, plan}
use Rattle.ring_core_spec.specs.Recoveries.{rest_messages}
use Rattle.ring_core_proof.specs.declared.event.RingEvent.{RingEvent}
use Rattle.ring_core_proof.specs.declared.event.RingEvent.TheVariants.{Send, Deliver, Timeout, Stop}
use Rattle.ring_core_proof.specs.Worlds.{Transmission, World, with_core, transmission_by, transmissions_from, after_step, is_node, stepped_if}
use Rattle.ring_core_proof.specs.Worlds.{stopped_if, handed_if, handed, world_after_event, run}
use Rattle.ring_core_proof.specs.Moves.{Move, Idles, Enters, Learns, Visits, Takes, Installs, core_after_move, sends_of, MayInstall}
use Rattle.ring_core_proof.specs.Moves.{MayMove, after_moves, all_sends, MayAll, IsReceivedFrame}
use Rattle.ring_core_proof.proofs.InLists.{each-in, some-left, some-get}
use Rattle.ring_core_proof.proofs.KeptByMoves.{may_halt}
use Rattle.ring_core_proof.proofs.StepsAreMoves.{step_moves}

-- each move of a processor keeps it
pub record IsKeptInWorlds {A : Type 0} (P : (ℕ → Core A) → List (Transmission A) → Type 0) : Type 1 where
  pub moves : (cores : ℕ → Core A) (frames : List (Transmission A)) (i : ℕ) (m : Move A) → 1 ≤ i → MayMove (IsReceivedFrame frames i) (cores i) m → P cores frames →
      P (with_core cores i (core_after_move (cores i) m)) (frames ++ transmissions_from i (sends_of (cores i) m))

-- One core replaces another

pub put-put : {A : Type 0} → (cores : ℕ → Core A) (i : ℕ) (a b : Core A) → with_core (with_core cores i a) i b ≡ with_core cores i b
put-put {A} cores i a b = fun_ext (λ j. twice (j == i) (cores j))
  where
    twice : (t : Bool) (x : Core A) → cond t b (cond t a x) ≡ cond t b x
    twice true x = refl
    twice false x = refl

pub put-own : {A : Type 0} → (cores : ℕ → Core A) (i : ℕ) → with_core cores i (cores i) ≡ cores
put-own cores i = fun_ext (λ j. cond_both (j == i) (cores i) (cores j) (λ x. x ≡ cores j) (λ e. ap cores (sym (eqb-true j i e))) (λ e. refl))

pub put-here : {A : Type 0} → (cores : ℕ → Core A) (i : ℕ) (c : Core A) → with_core cores i c i ≡ c
put-here cores i c = cond-true (i == i) c (cores i) (eq-eqb i i refl)

-- a node's number is at least 1
pub node_low : {A : Type 0} (w : World A) (i : ℕ) → is_node w i ≡ true → 1 ≤ i
node_low w i e = leb-true 1 i (and_parts (nat_le 1 i) (nat_le i w.total) e).0

-- events, one list after another
pub cores-append : {A : Type 0} → (w : World A) (xs ys : List (RingEvent A)) → run w (xs ++ ys) ≡ run (run w xs) ys
cores-append w [] ys = refl
cores-append w (x ∷ xs) ys = cores-append (world_after_event w x) xs ys

-- Frames

pub carried-append : {A : Type 0} → (i : ℕ) (xs ys : List (OutgoingFrame A)) → transmissions_from i (xs ++ ys) ≡ transmissions_from i xs ++ transmissions_from i ys
carried-append {A} i xs ys =
    let f : OutgoingFrame A → Transmission A = λ s. record { from = i; to = s.to; frame = s.frame } in
    let p : OutgoingFrame A → Bool = λ s. not (s.to == nobody) in
    ap (map f) (filter-append p xs ys) ∙ map-append f (filter p xs) (filter p ys)

sends_carried : {A : Type 0} → (i : ℕ) (xs : List (OutgoingFrame A)) →
    filter_map (transmission_by i) (map (λ s. SendOut s.to s.frame) xs) ≡ map (λ s. record { from = i; to = s.to; frame = s.frame }) xs
sends_carried i [] = refl
sends_carried i (x ∷ xs) = ap (λ ys. record { from = i; to = x.to; frame = x.frame } ∷ ys) (sends_carried i xs)

-- an output that is no send
abbrev pub IsTold : {A : Type 0} → Out A → Type 0
IsTold o = (i : ℕ) → transmission_by i o ≡ None

none_carried : {A : Type 0} → (i : ℕ) (outs : List (Out A)) → Each IsTold outs → filter_map (transmission_by i) outs ≡ []
none_carried i [] h = refl
none_carried {A} i (o ∷ outs) h = ap (λ x. cons_option x (filter_map (transmission_by i) outs)) (h.0 i) ∙ none_carried i outs h.1

any_each : {X : Type 0} (xs : List X) → Each (λ x. Unit {0}) xs
any_each xs = each-in (λ x. Unit {0}) xs (λ x i. tt)

pub told_from : {A : Type 0} → (c : Core A) (ring : RingId) (f m : ℕ) → Each IsTold (delivered_from c ring f m)
told_from c ring f m =
    each-append IsTold (agreed_from c ring f) (safe_from c ring m)
    (each-map IsTold (λ x. Agreed ring x.number x) (user_messages_between c ring f (front c ring)) (each-in _ _ (λ x k i. refl)))
    (cond_both (nat_lt m (mark c ring)) (Safe ring (mark c ring) ∷ []) [] (Each IsTold) (λ e. (λ i. refl, tt)) (λ e. tt))

pub told_configured : {A : Type 0} → (c : Core A) → Each IsTold (installation_outputs c)
told_configured c = (
  λ i. refl,
  each-append IsTold (map (λ x. Rest x.ring x.number x) (rest_messages (plan c) c.held))
      (Regular c.running.ring c.running.members ∷ delivered_from c c.running.ring 0 0)
      (each-map IsTold (λ x. Rest x.ring x.number x) (rest_messages (plan c) c.held) (each-in _ _ (λ x k i. refl)))
      (λ i. refl, told_from c c.running.ring 0 0),
)

pub outs_carried : {A : Type 0} → (i : ℕ) (sends : List (OutgoingFrame A)) (told : List (Out A)) → Each IsTold told →
    filter_map (transmission_by i) (sent sends ++ told) ≡ transmissions_from i sends
outs_carried i sends told h =
    filter_map-append (transmission_by i) (sent sends) told ∙ ap (λ xs. filter_map (transmission_by i) (sent sends) ++ xs)
    (none_carried i told h) ∙ append-nil _ ∙ sends_carried i (sends_with_receivers sends)

-- a frame that was sent to a processor arrived at it
pub came_at : {A : Type 0} → (frames : List (Transmission A)) (i n : ℕ) (f : Transmission A) → frame_at frames n ≡ Some f → has f.to i ≡ true → IsReceivedFrame frames i f.frame
came_at frames i zero f e h = absurd cc
came_at {A} frames i (suc n) f e h = some-get (λ (g : Transmission A). (has g.to i ≡ true) × (g.frame ≡ f.frame)) frames n f e (h, refl)

-- Moves

may_when : {A : Type 0} → (received received' : Frame A → Type 0) → ((f : Frame A) → received f → received' f) → (c : Core A) (m : Move A) → MayMove received c m →
    MayMove received' c m
may_when received received' f c (Idles state gathering last_sent queue sends) h = h
may_when received received' f c (Enters k) h = record {
  state = h.state;
  above = h.above;
  first = h.first;
  here = h.here;
  from = elim (h.from) [ inl p ↦ inl p | inr q ↦ inr (f _ q) ];
}
may_when received received' f c (Learns k) h =
    record {
      state = h.state;
      ring = h.ring;
      members = h.members;
      second = h.second;
      last = h.last;
      here = h.here;
      own = h.own;
      sound = h.sound;
      from = f _ h.from;
    }
may_when received received' f c (Visits t fresh requests again queue) h =
    record {
      state = h.state;
      ring = h.ring;
      newer = h.newer;
      ahead = h.ahead;
      room = h.room;
      users = h.users;
      wraps = h.wraps;
      repeats = h.repeats;
      queued = h.queued;
      from = elim (h.from) [ inl p ↦ inl p | inr q ↦ inr (f _ q) ];
    }
may_when received received' f c (Takes x) h = record { ring = h.ring; new = h.new; from = f _ h.from }
may_when received received' f c Installs h = h

module _ {A : Type 0} (P : (ℕ → Core A) → List (Transmission A) → Type 0) (k : IsKeptInWorlds P) where
  kept_all : (received : Frame A → Type 0) (cores : ℕ → Core A) (frames : List (Transmission A)) (i : ℕ) (c : Core A) (ms : List (Move A)) → cores i ≡ c → 1 ≤ i →
      ((f : Frame A) → received f → IsReceivedFrame frames i f) → MayAll received c ms → P cores frames →
      P (with_core cores i (after_moves c ms)) (frames ++ transmissions_from i (all_sends c ms))
  kept_all received cores frames i c [] e low f h p =
      let same : cores ≡ with_core cores i c = sym (ap (with_core cores i) (sym e) ∙ put-own cores i) in
      subst (λ fs. P (with_core cores i c) fs) (sym (append-nil frames)) (subst (λ cs. P cs frames) same p)
  kept_all received cores frames i c (m ∷ ms) e low f h p =
      let first : P (with_core cores i (core_after_move c m)) (frames ++ transmissions_from i (sends_of c m)) =
      subst (λ x. P (with_core cores i (core_after_move x m)) (frames ++ transmissions_from i (sends_of x m))) e
      (k.moves cores frames i m low (subst (λ x. MayMove (IsReceivedFrame frames i) x m) (sym e) (may_when received (IsReceivedFrame frames i) f c m h.0)) p) in
      let rest : P (with_core (with_core cores i (core_after_move c m)) i (after_moves (core_after_move c m) ms))
      ((frames ++ transmissions_from i (sends_of c m)) ++ transmissions_from i (all_sends (core_after_move c m) ms)) =
      kept_all received (with_core cores i (core_after_move c m)) (frames ++ transmissions_from i (sends_of c m)) i (core_after_move c m) ms
      (put-here cores i (core_after_move c m)) low (λ x q. some-left _ frames (transmissions_from i (sends_of c m)) (f x q))
      h.1 first in
      let both : (frames ++ transmissions_from i (sends_of c m)) ++ transmissions_from i (all_sends (core_after_move c m) ms) ≡ frames
      ++ transmissions_from i (sends_of c m ++ all_sends (core_after_move c m) ms) =
      append_assoc frames (transmissions_from i (sends_of c m)) (transmissions_from i (all_sends (core_after_move c m) ms))
      ∙ ap (λ xs. frames ++ xs) (sym (carried-append i (sends_of c m) (all_sends (core_after_move c m) ms))) in
      subst (λ fs. P (with_core cores i (after_moves (core_after_move c m) ms)) fs) both
      (subst (λ cs. P cs ((frames ++ transmissions_from i (sends_of c m)) ++ transmissions_from i (all_sends (core_after_move c m) ms)))
      (put-put cores i (core_after_move c m) (after_moves (core_after_move c m) ms)) rest)

  kept_settled : (cores : ℕ → Core A) (frames : List (Transmission A)) (i : ℕ) (old c : Core A) (sends : List (OutgoingFrame A)) (b : Bool) → 1 ≤ i →
      (b ≡ true → MayInstall c) → P (with_core cores i c) (frames ++ transmissions_from i sends) →
      P (with_core cores i (with_installation_if b c (sent sends ++ agreed_and_safe_of_step old c)).core) (frames ++ filter_map (transmission_by i) (with_installation_if b c (sent sends ++ agreed_and_safe_of_step old c)).outs)
  kept_settled cores frames i old c sends false low h p =
      subst (λ fs. P (with_core cores i c) (frames ++ fs)) (sym (outs_carried i sends (agreed_and_safe_of_step old c) (told_from c old.installed.ring _ _))) p
  kept_settled cores frames i old c sends true low h p =
      let fs = frames ++ transmissions_from i sends in
      let q : P (with_core (with_core cores i c) i (core_after_move (with_core cores i c i) Installs)) (fs ++ []) =
      k.moves (with_core cores i c) fs i Installs low (subst (λ x. MayInstall x) (sym (put-here cores i c)) (h refl)) p in
      let r : P (with_core (with_core cores i c) i (install c)) (fs ++ []) = subst (λ x. P (with_core (with_core cores i c) i (install x)) (fs ++ [])) (put-here cores i c) q in
      let s : P (with_core cores i (install c)) (frames ++ transmissions_from i sends) =
      subst (λ gs. P (with_core cores i (install c)) gs) (append-nil fs)
      (subst (λ cs. P cs (fs ++ [])) (put-put cores i c (install c)) r) in
      let told : Each IsTold (agreed_and_safe_of_step old c ++ installation_outputs c) = each-append IsTold (agreed_and_safe_of_step old c) (installation_outputs c)
      (told_from c old.installed.ring _ _) (told_configured c) in
      let outs : filter_map (transmission_by i) ((sent sends ++ agreed_and_safe_of_step old c) ++ installation_outputs c) ≡ transmissions_from i sends =
      ap (filter_map (transmission_by i)) (append_assoc (sent sends) (agreed_and_safe_of_step old c) (installation_outputs c)) ∙ outs_carried i sends
      (agreed_and_safe_of_step old c ++ installation_outputs c) told in
      subst (λ gs. P (with_core cores i (install c)) (frames ++ gs)) (sym outs) s

  kept_after : (w : World A) (i : ℕ) (input : Input A) → 1 ≤ i → ((f : Frame A) → input ≡ FrameInput f → IsReceivedFrame w.frames i f) → P w.cores w.frames →
      P (after_step w i (ring_step (w.cores i) input)).cores (after_step w i (ring_step (w.cores i) input)).frames
  kept_after w i input low f p =
      let c = w.cores i in
      let s = step_moves c input in
      let d = after_moves c s.moves in
      subst (λ x. P (with_core w.cores i x.core) (w.frames ++ filter_map (transmission_by i) x.outs)) (sym s.step)
      (kept_settled w.cores w.frames i c d (all_sends c s.moves) (may_install d) low s.installs
      (kept_all (λ frame. input ≡ FrameInput frame) w.cores w.frames i c s.moves refl low f s.may p))

  abbrev Kept : World A → Type 0
  Kept w = P w.cores w.frames

  kept_stepped : (b : Bool) (w : World A) (i : ℕ) (input : Input A) → (b ≡ true → 1 ≤ i) → ((f : Frame A) → input ≡ FrameInput f → IsReceivedFrame w.frames i f) →
      Kept w → Kept (stepped_if b w i input)
  kept_stepped false w i input low f p = p
  kept_stepped true w i input low f p = kept_after w i input (low refl) f p

  kept_stopped : (b : Bool) (w : World A) (i : ℕ) → (b ≡ true → 1 ≤ i) → Kept w → Kept (stopped_if b w i)
  kept_stopped false w i low p = p
  kept_stopped true w i low p =
      let c = w.cores i in
      subst (λ fs. P (with_core w.cores i (halted c)) fs) (append-nil w.frames)
      (k.moves w.cores w.frames i (Idles Stopped c.gathering c.last_sent c.queue []) (low refl) (may_halt c) p)

  kept_handed : (b : Bool) (w : World A) (i : ℕ) (frame : Frame A) → (b ≡ true → IsReceivedFrame w.frames i frame) → Kept w → Kept (handed_if b w i frame)
  kept_handed false w i frame received p = p
  kept_handed true w i frame received p =
      kept_stepped (is_node w i) w i (FrameInput frame) (node_low w i) (λ f e. (let same : frame ≡ f = cc in subst (IsReceivedFrame w.frames i) same (received refl))) p

  kept_found : (w : World A) (i : ℕ) (o : Option (Transmission A)) → ((f : Transmission A) → o ≡ Some f → has f.to i ≡ true → IsReceivedFrame w.frames i f.frame) → Kept w →
      Kept (handed w i o)
  kept_found w i None received p = p
  kept_found w i (Some f) received p = kept_handed (has f.to i) w i f.frame (received f refl) p

  kept_event : (w : World A) (e : RingEvent A) → Kept w → Kept (world_after_event w e)
  kept_event w (Send i payload) p = kept_stepped (is_node w i) w i (SendInput payload) (node_low w i) (λ f e. absurd cc) p
  kept_event w (Deliver i n) p = kept_found w i (frame_at w.frames n) (λ f e h. came_at w.frames i n f e h) p
  kept_event w (Timeout i kind) p = kept_stepped (is_node w i) w i (TimeInput kind) (node_low w i) (λ f e. absurd cc) p
  kept_event w (Stop i) p = kept_stopped (is_node w i) w i (node_low w i) p

  pub kept_run : (w : World A) (events : List (RingEvent A)) → Kept w → Kept (run w events)
  kept_run w [] p = p
  kept_run w (e ∷ events) p = kept_run (world_after_event w e) events (kept_event w e p)
