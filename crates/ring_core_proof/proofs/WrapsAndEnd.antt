-- The payloads of a core in Recovery: the Wrapped of the old ring's messages, ascending, and after the last of them
-- one End.

-- It wraps the user messages of the installed ring above the least front that it holds and hasn't seen wrapped.
use Rattle.std.proofs.Common.{◌≡◌, ℕ, zero, suc, ◌+◌, ◌-◌, ◌<◌, ◌≤◌, ◌⊎◌, inl, inr, Bool, true, false, ◌==◌, cond, eqb}
use Rattle.std.proofs.Common.{List, [], ◌∷◌, length, Option, Some, None, refl, ap, sym, ◌∙◌, subst, arith}
use Rattle.std.specs.Prelude.{filter, filter_map, not, take}
use Rattle.std.specs.List.{AllByRecursion as Each, cons_option}
use Rattle.std.proofs.lemmas.Bool.{cond_both, cases_Bool, and_parts, and_from, eqb-true, eq-eqb, not-true, not_from_false}
use Rattle.std.proofs.lemmas.List.{take_all}
use Rattle.ring_base.specs.Numbers.{numbers_from}
use Rattle.ring_base.specs.Rings.{same_ring}
use Rattle.ring_base.specs.declared.ring_id.RingId.{RingId}
use Rattle.ring_base.proofs.Each.{each-take, each-filtered, each-filter_map}
use Rattle.ring_base.proofs.ListFronts.{take-append}
use Rattle.ring_payload.specs.PayloadKinds.{is_user, payload_of, content_of}
use Rattle.ring_payload.specs.declared.content.WrappedPayload.{WrappedPayload}
use Rattle.ring_payload.specs.declared.content.WrappedPayload.TheVariants.{Call as CallContent, Head as HeadContent}
use Rattle.ring_payload.specs.declared.content.WrappedPayload.TheVariants.{Part as PartContent, Pack as PackContent}
use Rattle.ring_payload.specs.declared.content.WrappedPayload.TheVariants.{Snap as SnapContent}
use Rattle.ring_payload.specs.declared.content.Payload.{Payload}
use Rattle.ring_payload.specs.declared.content.Payload.TheVariants.{Call, Wrapped, End, Head, Part, Pack, Snap}
use Rattle.ring_wire.specs.declared.message.Message.{Message}
use Rattle.ring_core_spec.specs.Windows.{is_numbered, found, highest, of_ring}
use Rattle.ring_base.proofs.SameRing.{ring_same, ring_itself}
use Rattle.ring_core_spec.proofs.Windows.{highest_covers, found-holds}
use Rattle.ring_core_spec.specs.Recoveries.{low, is_wrap_of, is_wrapped, wrap, wrap_content, above_low, to_wrap, has_ended, wraps_and_end}
use Rattle.ring_core_spec.specs.State.{Core}
use Rattle.ring_core_spec.specs.Views.{plan}
use Rattle.ring_core_proof.specs.FactWords.{IsIn, SomeIs}
use Rattle.ring_core_proof.specs.Moves.{is_seen, IsWrapping, AreRising, AreLast, MayEnd, AreWraps}
use Rattle.ring_core_proof.proofs.InLists.{in-filter, in-filtered, any-some, in-filter_map, in-numbers, some-in, any-in}
use Rattle.ring_core_proof.proofs.InLists.{numbers-above, find-in}

-- Messages that are found

-- a message found under a number is in the list, and has that ring and number
pub found_in : {A : Type 0} → (held : List (Message A)) (ring : RingId) (n : ℕ) (x : Message A) → found held ring n ≡ Some x →
    IsIn x held × (x.ring ≡ ring) × (x.number ≡ n)
found_in held ring n x e =
    let f = find-in (is_numbered ring n) x held e in
    let p = and_parts (same_ring x.ring ring) (eqb x.number n) f.1 in
    (f.0, ring_same x.ring ring p.0, eqb-true x.number n p.1)

-- the numbers seen wrapped

pub seen_by : {A : Type 0} → (held : List (Message A)) (running old : RingId) (n : ℕ) (x : Message A) → IsIn x held → x.ring ≡ running →
    is_wrap_of old n x.payload ≡ true → is_wrapped (of_ring running held) old n ≡ true
seen_by held running old n x i r t =
    let of_running = in-filter (λ (y : Message _). same_ring y.ring running) x held i (ring_itself x.ring running r) in
    any-in (λ (y : Message _). is_wrap_of old n y.payload) x (of_ring running held) of_running t

pub seen_of : {A : Type 0} → (held : List (Message A)) (running old : RingId) (n : ℕ) → is_wrapped (of_ring running held) old n ≡ true →
    (x : Message A) × IsIn x held × (x.ring ≡ running) × (is_wrap_of old n x.payload ≡ true)
seen_of held running old n h =
    let (x, i, t) = any-some (λ (y : Message _). is_wrap_of old n y.payload) (of_ring running held) h in
    let f = in-filtered (λ (y : Message _). same_ring y.ring running) x held i in
    (x, f.0, ring_same x.ring running f.1, t)

-- Contents

-- the message, wrapped
abbrev wrapping : {A : Type 0} → Message A → WrappedPayload A → Payload A
wrapping x content = Wrapped (record { ring = x.ring; number = x.number; sender = x.sender; payload = content })

-- a message that may be wrapped is a user's, and unwraps to itself
content_back : {A : Type 0} → (p : Payload A) (content : WrappedPayload A) → content_of p ≡ Some content → p ≡ payload_of content
content_back (Call call) content e = (let k : CallContent call ≡ content = cc in ap payload_of k)
content_back (Head head) content e = (let k : HeadContent head ≡ content = cc in ap payload_of k)
content_back (Part part) content e = (let k : PartContent part ≡ content = cc in ap payload_of k)
content_back (Pack pack) content e = (let k : PackContent pack ≡ content = cc in ap payload_of k)
content_back (Snap snap) content e = (let k : SnapContent snap ≡ content = cc in ap payload_of k)
content_back (Wrapped w) content e = absurd (let n : ⊥ = cc in n)
content_back End content e = absurd (let n : ⊥ = cc in n)

content_user : {A : Type 0} → (content : WrappedPayload A) → is_user (payload_of content) ≡ true
content_user (CallContent call) = refl
content_user (HeadContent head) = refl
content_user (PartContent part) = refl
content_user (PackContent pack) = refl
content_user (SnapContent snap) = refl

-- and each user message may be wrapped
user_content : {A : Type 0} → (p : Payload A) → is_user p ≡ true → (content : WrappedPayload A) × (content_of p ≡ Some content)
user_content (Call call) u = (CallContent call, refl)
user_content (Head head) u = (HeadContent head, refl)
user_content (Part part) u = (PartContent part, refl)
user_content (Pack pack) u = (PackContent pack, refl)
user_content (Snap snap) u = (SnapContent snap, refl)
user_content (Wrapped w) u = absurd (let n : ⊥ = cc in n)
user_content End u = absurd (let n : ⊥ = cc in n)

-- The messages left to wrap

-- the messages above the least front that weren't seen wrapped
record IsWaiting {A : Type 0} (c : Core A) (x : Message A) : Type 0 where
  pub ring : x.ring ≡ c.installed.ring
  pub above : low (plan c) < x.number
  pub held : found c.held x.ring x.number ≡ Some x
  pub unseen : is_seen c x.number ≡ false

record IsAbove {A : Type 0} (c : Core A) (x : Message A) : Type 0 where
  pub ring : x.ring ≡ c.installed.ring
  pub above : low (plan c) < x.number
  pub held : found c.held x.ring x.number ≡ Some x

module _ {A : Type 0} (c : Core A) where
  abbrev span : ℕ
  span = highest c.held c.installed.ring - low (plan c)

  abbrev waiting : List (Message A)
  waiting = to_wrap (plan c) c.running.ring c.held

  is_above : (n : ℕ) (x : Message A) → low (plan c) + 1 ≤ n → found c.held c.installed.ring n ≡ Some x → IsAbove c x
  is_above n x l e =
      let f = found_in c.held c.installed.ring n x e in
      let r : x.ring ≡ c.installed.ring = f.1 in
      let k : x.number ≡ n = f.2 in
      record { ring = r; above = omega arith; held = ap (λ (q : RingId). found c.held q x.number) r ∙ ap (found c.held c.installed.ring) k ∙ e }

  all_above : Each (IsAbove c) (above_low (plan c) c.held)
  all_above =
      each-filter_map (λ n. low (plan c) + 1 ≤ n) (IsAbove c) (found c.held c.installed.ring) is_above
      (numbers_from (low (plan c) + 1) span) (numbers-above _ _)

  all_waiting : Each (IsWaiting c) waiting
  all_waiting =
      each-filtered (IsAbove c) (IsWaiting c) (λ (x : Message A). not (is_seen c x.number))
      (λ x a t. record { ring = a.ring; above = a.above; held = a.held; unseen = not-true _ t }) (above_low (plan c) c.held) all_above

  -- each Wrapped is of a user message
  handed_on : (x : Message A) (o : Option (WrappedPayload A)) (q : Payload A) → content_of x.payload ≡ o → IsWaiting c x → wrap_content x o ≡ Some q → IsWrapping c q
  handed_on x None q e w h = absurd (let n : ⊥ = cc in n)
  handed_on x (Some content) q e w h =
      let same : wrapping x content ≡ q = cc in
      let back : x.payload ≡ payload_of content = content_back x.payload content e in
      let P : Payload A → Type 0 = λ p. found c.held x.ring x.number ≡ Some (record { ring = x.ring; number = x.number; sender = x.sender; payload = p }) in
      subst (IsWrapping c) same (
        record { ring = x.ring; number = x.number; sender = x.sender; payload = content },
        refl,
        record { ring = w.ring; user = content_user content; above = w.above; held = subst P back w.held; unseen = w.unseen },
      )

  all_wraps : Each (IsWrapping c) (filter_map wrap waiting)
  all_wraps = each-filter_map (IsWaiting c) (IsWrapping c) wrap (λ x q w e. handed_on x (content_of x.payload) q refl w e) waiting all_waiting

  -- each message that is left is wrapped

  wraps_it : (n : ℕ) (x : Message A) → (x.ring ≡ c.installed.ring) × (x.number ≡ n) → IsIn x waiting → is_user x.payload ≡ true →
      SomeIs (λ p. is_wrap_of c.installed.ring n p ≡ true) (filter_map wrap waiting)
  wraps_it n x is i u =
      let (content, e) = user_content x.payload u in
      some-in (λ p. is_wrap_of c.installed.ring n p ≡ true) (wrapping x content) (filter_map wrap waiting)
      (in-filter_map wrap x (wrapping x content) waiting i (ap (wrap_content x) e))
      (and_from (same_ring x.ring c.installed.ring) (x.number == n) (ring_itself x.ring c.installed.ring is.0) (eq-eqb x.number n is.1))

  waits : (n : ℕ) (x : Message A) → low (plan c) < n → found c.held c.installed.ring n ≡ Some x → is_seen c n ≡ false → IsIn x waiting
  waits n x l e s =
      let f = found_in c.held c.installed.ring n x e in
      let k : x.number ≡ n = f.2 in
      let top : n ≤ highest c.held c.installed.ring = highest_covers c.held c.installed.ring n (found-holds c.held c.installed.ring n x e) in
      let low_one : low (plan c) + 1 ≤ n = omega arith in
      let high : n < low (plan c) + 1 + span = omega arith in
      in-filter (λ (x : Message A). not (is_seen c x.number)) x (above_low (plan c) c.held)
      (in-filter_map (found c.held c.installed.ring) n x (numbers_from (low (plan c) + 1) span) (in-numbers (low (plan c) + 1) span n low_one high) e)
      (not_from_false _ (ap (is_seen c) k ∙ s))

  none_left : AreLast c (filter_map wrap waiting)
  none_left n x l e u =
      elim (cases_Bool (is_seen c n)) [
        | inl t ↦ inl t
        | inr f ↦ (let i = found_in c.held c.installed.ring n x e in inr (wraps_it n x (i.1, i.2) (waits n x l e f) u))
      ]

-- Their numbers rise

abbrev MessagesRise : {A : Type 0} → ℕ → List (Message A) → Type 0
MessagesRise below [] = Unit {0}
MessagesRise below (x ∷ xs) = (below < x.number) × MessagesRise x.number xs

from_lower : {A : Type 0} → (a b : ℕ) (xs : List (Message A)) → a ≤ b → MessagesRise b xs → MessagesRise a xs
from_lower a b [] l h = tt
from_lower a b (x ∷ xs) l h = (omega (arith, h.0), h.1)

one_rises : {A : Type 0} → (below first : ℕ) (o : Option (Message A)) (xs : List (Message A)) → ((x : Message A) → o ≡ Some x → x.number ≡ first) →
    below < first → MessagesRise first xs → MessagesRise below (cons_option o xs)
one_rises below first None xs f l h = from_lower below first xs (omega arith) h
one_rises below first (Some x) xs f l h = (let n : x.number ≡ first = f x refl in (omega arith, subst (λ k. MessagesRise k xs) (sym n) h))

found_rise : {A : Type 0} → (held : List (Message A)) (ring : RingId) (below first count : ℕ) → below < first →
    MessagesRise below (filter_map (found held ring) (numbers_from first count))
found_rise held ring below first zero l = tt
found_rise held ring below first (suc count) l =
    one_rises below first (found held ring first) (filter_map (found held ring) (numbers_from (suc first) count)) (λ x e. (found_in held ring first x e).2)
    l (found_rise held ring first (suc first) count (omega arith))

filter_rise : {A : Type 0} → (p : Message A → Bool) (below : ℕ) (xs : List (Message A)) → MessagesRise below xs → MessagesRise below (filter p xs)
filter_rise p below [] h = tt
filter_rise p below (x ∷ xs) h =
    cond_both (p x) (x ∷ filter p xs) (filter p xs) (MessagesRise below) (λ e. (h.0, filter_rise p x.number xs h.1))
    (λ e. filter_rise p below xs (from_lower below x.number xs (omega (arith, h.0)) h.1))

wrap_one : {A : Type 0} → (below : ℕ) (x : Message A) (o : Option (WrappedPayload A)) (ps : List (Payload A)) → below < x.number → AreRising x.number ps →
    AreRising below ps → AreRising below (cons_option (wrap_content x o) ps)
wrap_one below x None ps l h k = k
wrap_one below x (Some content) ps l h k = (record { ring = x.ring; number = x.number; sender = x.sender; payload = content }, refl, l, h)

wrap_rise : {A : Type 0} → (below : ℕ) (xs : List (Message A)) → MessagesRise below xs → AreRising below (filter_map wrap xs)
wrap_rise below [] h = tt
wrap_rise below (x ∷ xs) h =
    wrap_one below x (content_of x.payload) (filter_map wrap xs) h.0 (wrap_rise x.number xs h.1)
    (wrap_rise below xs (from_lower below x.number xs (omega (arith, h.0)) h.1))

take_rise : {A : Type 0} → (n below : ℕ) (ps : List (Payload A)) → AreRising below ps → AreRising below (take n ps)
take_rise zero below ps h = tt
take_rise (suc n) below [] h = tt
take_rise (suc n) below (p ∷ ps) (w, e, l, h) = (w, e, l, take_rise n w.number ps h)

-- The part of one visit

abbrev nothing : (X : Type 0) → List X
nothing X = []

abbrev end_alone : (A : Type 0) → List (Payload A)
end_alone A = End ∷ []

take_none : (X : Type 0) (n : ℕ) → take n (nothing X) ≡ []
take_none X zero = refl
take_none X (suc n) = refl

-- an End is sent where all that is left to wrap is sent before it
may_end : {A : Type 0} → (c : Core A) (n : ℕ) (b : Bool) → has_ended c.me c.running.ring c.held ≡ b → (ws : List (Payload A)) → AreLast c ws →
    (k : ℕ) → k ≡ n - length ws → (take k (cond b [] (end_alone A)) ≡ []) ⊎ MayEnd c (take n ws) (take k (cond b [] (end_alone A)))
may_end {A} c n true e ws h k is = inl (take_none (Payload A) k)
may_end c n false e ws h zero is = inl refl
may_end {A} c n false e ws h (suc k) is =
    let short : length ws ≤ n = omega arith in
    let whole : take n ws ≡ ws = take_all n ws short in
    inr (record { one = ap (λ zs. End ∷ zs) (take_none (Payload A) k); first = e; last = subst (AreLast c) (sym whole) h })

pub are_wraps : {A : Type 0} → (c : Core A) (n : ℕ) → AreWraps c (take n (wraps_and_end c.me (plan c) c.running.ring c.held))
are_wraps {A} c n =
    let ws = filter_map wrap (waiting c) in
    let ended = has_ended c.me c.running.ring c.held in
    let rise = filter_rise (λ (x : Message A). not (is_seen c x.number)) (low (plan c)) (above_low (plan c) c.held)
    (found_rise c.held c.installed.ring (low (plan c)) (low (plan c) + 1) (span c) (omega arith)) in
    record {
      wraps = take n ws;
      ends = take (n - length ws) (cond ended [] (End ∷ []));
      parts = take-append n ws (cond ended [] (End ∷ []));
      handed = each-take (IsWrapping c) n ws (all_wraps c);
      rising = take_rise n (low (plan c)) ws (wrap_rise (low (plan c)) (waiting c) rise);
      ended = may_end c n ended refl ws (none_left c) (n - length ws) refl;
    }
