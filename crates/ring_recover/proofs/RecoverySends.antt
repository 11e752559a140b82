-- The payloads of a node in Recovery: the first wraps the number that `to_wrap` returns, and once that Wrapped is
-- seen, the others are left.
use Rattle.std.proofs.Common.{◌≡◌, ◌≢◌, ℕ, zero, suc, ◌+◌, ◌-◌, ◌<◌, ◌≤◌, Bool, true, false, List, [], ◌∷◌, ◌++◌}
use Rattle.std.proofs.Common.{filter, filter_map, Option, Some, None, refl, ap, ◌∙◌, sym, subst, inl, inr, arith}
use mathlib.Core.Path.{fun_ext}
use Rattle.std.specs.Prelude.{not, ◌&&◌, ◌||◌, ◌==◌, if◌then◌else◌}
use Rattle.std.specs.List.{cons_option}
use Rattle.std.proofs.lemmas.Bool.{cases_Bool, cond-true, cond-false, and_parts, eq-eqb, ne_eqb}
use Rattle.std.proofs.lemmas.Option.{same_Some}
use Rattle.ring_base.specs.Rings.{same_ring}
use Rattle.ring_base.specs.declared.ring_id.RingId.{RingId}
use Rattle.ring_base.proofs.Cases.{and-true}
use Rattle.ring_window.specs.Payloads.{is_user, is_end, content_of, Payload}
use Rattle.ring_window.specs.PayloadVariants.{Call, Wrapped, End, Head, Part, Pack, Snap}
use Rattle.ring_window.specs.Messages.{Message}
use Rattle.ring_window.specs.Held.{is_numbered, found, of_ring, highest}
use Rattle.ring_recover.specs.Plans.{Plan, low}
use Rattle.ring_recover.specs.Wrapping.{is_wrap_of, is_wrapped, wrap, wrap_content, above_low, has_own_end, wraps_and_end}
use Rattle.ring_recover.specs.RecoveryState.{RecoveryState, with_seen, first_number, next_to_wrap, is_user_message}
use Rattle.ring_recover.proofs.HandedNext.{found_number, is_left, row, next_from, next_hit, next_skip}

-- a message of the new ring that wraps one of the old
abbrev pub Wraps : {A : Type 0} → Message A → RingId → ℕ → Type 0
Wraps m old n = (k : ℕ) → is_wrap_of old k m.payload ≡ (n == k)

user_wraps : {A : Type 0} (x : Message A) → is_user x.payload ≡ true → (p : Payload A) × (wrap x ≡ Some p)
user_wraps x user = by_kind x.payload user
  where
    by_kind : (q : Payload _) → is_user q ≡ true → (p : Payload _) × (wrap_content x (content_of q) ≡ Some p)
    by_kind (Call call) h = (_, refl)
    by_kind (Wrapped old) h = absurd cc
    by_kind End h = absurd cc
    by_kind (Head head) h = (_, refl)
    by_kind (Part part) h = (_, refl)
    by_kind (Pack pack) h = (_, refl)
    by_kind (Snap snap) h = (_, refl)

no_user_none : {A : Type 0} (x : Message A) → is_user x.payload ≡ false → wrap x ≡ None
no_user_none x other = by_kind x.payload other
  where
    by_kind : (q : Payload _) → is_user q ≡ false → wrap_content x (content_of q) ≡ None
    by_kind (Call call) h = absurd cc
    by_kind (Wrapped old) h = refl
    by_kind End h = refl
    by_kind (Head head) h = absurd cc
    by_kind (Part part) h = absurd cc
    by_kind (Pack pack) h = absurd cc
    by_kind (Snap snap) h = absurd cc

-- the messages of consecutive numbers that none wraps, as they are sent
abbrev pub sends_of : {A : Type 0} → RecoveryState A → List (Message A) → List (Payload A)
sends_of r xs = filter_map wrap (filter (λ (x : Message _). not (is_wrapped r.seen r.plan.old x.number)) xs)

module _ {A : Type 0} (r : RecoveryState A) where
  -- a message that is wrapped already, or that is no user message, isn't sent
  not_sent : (x : Message A) (xs : List (Message A)) → (is_user x.payload && not (is_wrapped r.seen r.plan.old x.number)) ≡ false
      → sends_of r (x ∷ xs) ≡ sends_of r xs
  not_sent x xs h =
      let rest = filter (λ (y : Message A). not (is_wrapped r.seen r.plan.old y.number)) xs in
      elim (cases_Bool (not (is_wrapped r.seen r.plan.old x.number))) [
        | inr seen ↦ ap (filter_map wrap) (cond-false (not (is_wrapped r.seen r.plan.old x.number)) (x ∷ rest) rest seen)
        | inl new ↦
            let other : is_user x.payload ≡ false = sym (and-true (is_user x.payload)) ∙ sym (ap (λ b. is_user x.payload && b) new) ∙ h in
            ap (filter_map wrap) (cond-true (not (is_wrapped r.seen r.plan.old x.number)) (x ∷ rest) rest new)
            ∙ ap (λ (o : Option (Payload A)). cons_option o (filter_map wrap rest)) (no_user_none x other)
      ]

  sent : (x : Message A) (xs : List (Message A)) (p : Payload A) → not (is_wrapped r.seen r.plan.old x.number) ≡ true → wrap x ≡ Some p
      → sends_of r (x ∷ xs) ≡ p ∷ sends_of r xs
  sent x xs p new w =
      let rest = filter (λ (y : Message A). not (is_wrapped r.seen r.plan.old y.number)) xs in
      ap (filter_map wrap) (cond-true (not (is_wrapped r.seen r.plan.old x.number)) (x ∷ rest) rest new)
      ∙ ap (λ (o : Option (Payload A)). cons_option o (filter_map wrap rest)) w

-- the next message of the old ring, and its Wrapped; and the payloads that are left once that was seen
pub record IsHanded {A : Type 0} (r : RecoveryState A) (m : Message A) (held xs : List (Message A)) (n : ℕ) : Type 0 where
  pub message : Message A
  pub payload : Payload A
  pub is_found : found held r.plan.old n ≡ Some message
  pub is_wrap : wrap message ≡ Some payload
  pub then_others : sends_of r xs ≡ payload ∷ sends_of (with_seen r m) xs

module _ {A : Type 0} (r : RecoveryState A) (held : List (Message A)) (m : Message A) (n : ℕ) (wraps : Wraps m r.plan.old n) where
  seen_this : not (is_wrapped (m ∷ r.seen) r.plan.old n) ≡ false
  seen_this = ap (λ b. not (b || is_wrapped r.seen r.plan.old n)) (wraps n ∙ eq-eqb n n refl)

  seen_other : (k : ℕ) → k ≢ n → is_wrapped (m ∷ r.seen) r.plan.old k ≡ is_wrapped r.seen r.plan.old k
  seen_other k other = ap (λ b. b || is_wrapped r.seen r.plan.old k) (wraps k ∙ ne_eqb n k (λ e. other (sym e)))

  -- for numbers past it nothing changes
  same_by : (o : Option (Message A)) (first : ℕ) (rest : List (Message A)) → found held r.plan.old first ≡ o → first ≢ n
      → sends_of (with_seen r m) rest ≡ sends_of r rest
      → sends_of (with_seen r m) (cons_option o rest) ≡ sends_of r (cons_option o rest)
  same_by None first rest e other h = h
  same_by (Some x) first rest e other h =
      let number = found_number held r.plan.old first x e in
      let seen : is_wrapped (m ∷ r.seen) r.plan.old x.number ≡ is_wrapped r.seen r.plan.old x.number = seen_other x.number (λ q. other (sym number ∙ q)) in
      elim (cases_Bool (not (is_wrapped r.seen r.plan.old x.number))) [
        | inr old ↦
            let rest' = filter (λ (y : Message A). not (is_wrapped (m ∷ r.seen) r.plan.old y.number)) rest in
            let rest'' = filter (λ (y : Message A). not (is_wrapped r.seen r.plan.old y.number)) rest in
            ap (filter_map wrap) (cond-false (not (is_wrapped (m ∷ r.seen) r.plan.old x.number)) (x ∷ rest') rest' (ap not seen ∙ old))
            ∙ h ∙ sym (ap (filter_map wrap) (cond-false (not (is_wrapped r.seen r.plan.old x.number)) (x ∷ rest'') rest'' old))
        | inl new ↦
            let rest' = filter (λ (y : Message A). not (is_wrapped (m ∷ r.seen) r.plan.old y.number)) rest in
            let rest'' = filter (λ (y : Message A). not (is_wrapped r.seen r.plan.old y.number)) rest in
            ap (filter_map wrap) (cond-true (not (is_wrapped (m ∷ r.seen) r.plan.old x.number)) (x ∷ rest') rest' (ap not seen ∙ new))
            ∙ ap (λ (ps : List (Payload A)). cons_option (wrap x) ps) h
            ∙ sym (ap (filter_map wrap) (cond-true (not (is_wrapped r.seen r.plan.old x.number)) (x ∷ rest'') rest'' new))
      ]

  same_past : (first count : ℕ) → n < first → sends_of (with_seen r m) (row r held first count) ≡ sends_of r (row r held first count)
  same_past first zero l = refl
  same_past first (suc count) l = same_by (found held r.plan.old first) first (row r held (suc first) count) refl
      (λ e. omega arith) (same_past (suc first) count (omega arith))

  here_by : (o : Option (Message A)) (rest : List (Message A)) → found held r.plan.old n ≡ o
      → (is_user_message o && not (is_wrapped r.seen r.plan.old n)) ≡ true → sends_of (with_seen r m) rest ≡ sends_of r rest
      → IsHanded r m held (cons_option o rest) n
  here_by None rest e h s = absurd cc
  here_by (Some x) rest e h s =
      let number = found_number held r.plan.old n x e in
      let both = and_parts (is_user x.payload) (not (is_wrapped r.seen r.plan.old n)) h in
      let p = user_wraps x both.0 in
      let rest' = filter (λ (y : Message A). not (is_wrapped (m ∷ r.seen) r.plan.old y.number)) rest in
      record {
        message = x;
        payload = p.0;
        is_found = e;
        is_wrap = p.1;
        then_others =
            sent r x rest p.0 (ap (λ k. not (is_wrapped r.seen r.plan.old k)) number ∙ both.1) p.1
            ∙ ap (λ ps. p.0 ∷ ps) (sym s
            ∙ sym (ap (filter_map wrap) (cond-false (not (is_wrapped (m ∷ r.seen) r.plan.old x.number)) (x ∷ rest') rest' (ap
            (λ k. not (is_wrapped (m ∷ r.seen) r.plan.old k)) number ∙ seen_this))));
      }

  later_by : (o : Option (Message A)) (first : ℕ) (rest : List (Message A)) → found held r.plan.old first ≡ o
      → (is_user_message o && not (is_wrapped r.seen r.plan.old first)) ≡ false → first ≢ n
      → IsHanded r m held rest n → IsHanded r m held (cons_option o rest) n
  later_by None first rest e h other i = i
  later_by (Some x) first rest e h other i =
      let number = found_number held r.plan.old first x e in
      let no : (is_user x.payload && not (is_wrapped r.seen r.plan.old x.number)) ≡ false = ap
      (λ k. is_user x.payload && not (is_wrapped r.seen r.plan.old k)) number ∙ h in
      let seen : is_wrapped (m ∷ r.seen) r.plan.old x.number ≡ is_wrapped r.seen r.plan.old x.number = seen_other x.number (λ q. other (sym number ∙ q)) in
      record {
        message = i.message;
        payload = i.payload;
        is_found = i.is_found;
        is_wrap = i.is_wrap;
        then_others = not_sent r x rest no ∙ i.then_others
            ∙ ap (λ ps. i.payload ∷ ps) (sym (not_sent (with_seen r m) x rest (ap (λ b. is_user x.payload && not b) seen ∙ no)));
      }

  handed_row : (first count : ℕ) → next_from r held first count ≡ Some n → (first ≤ n) × IsHanded r m held (row r held first count) n
  handed_row first zero h = absurd cc
  handed_row first (suc count) h =
      elim (cases_Bool (is_left r held first)) [
        | inl t ↦
            let same : first ≡ n = (let q : Some first ≡ Some n = sym (next_hit r held first count t) ∙ h in cc) in
            let it : found held r.plan.old n ≡ found held r.plan.old first = ap (found held r.plan.old) (sym same) in
            let left : is_left r held n ≡ true = ap (is_left r held) (sym same) ∙ t in (
              omega arith,
              subst (λ (o : Option (Message A)). IsHanded r m held (cons_option o (row r held (suc first) count)) n) it (here_by
                  (found held r.plan.old n) (row r held (suc first) count) refl left (same_past (suc first) count (omega arith))),
            )
        | inr f ↦
            let i = handed_row (suc first) count (sym (next_skip r held first count f) ∙ h) in
            (omega (arith, i.0), later_by (found held r.plan.old first) first (row r held (suc first) count) refl f (λ e. omega (arith, i.0)) i.1)
      ]

  -- the number that `to_wrap` returns is that of the first payload; once a Wrapped of it is seen, the other payloads
  -- are left
  pub handed : next_to_wrap r held ≡ Some n → IsHanded r m held (above_low r.plan held) n
  handed h = (handed_row (low r.plan + 1) (highest held r.plan.old - low r.plan) h).1

module _ {A : Type 0} (r : RecoveryState A) (held : List (Message A)) where
  none_by : (o : Option (Message A)) (first : ℕ) (rest : List (Message A)) → found held r.plan.old first ≡ o
      → (is_user_message o && not (is_wrapped r.seen r.plan.old first)) ≡ false
      → sends_of r rest ≡ [] → sends_of r (cons_option o rest) ≡ []
  none_by None first rest e h n = n
  none_by (Some x) first rest e h n = not_sent r x rest (ap
      (λ k. is_user x.payload && not (is_wrapped r.seen r.plan.old k)) (found_number held r.plan.old first x e) ∙ h) ∙ n

  none_row : (first count : ℕ) → next_from r held first count ≡ None → sends_of r (row r held first count) ≡ []
  none_row first zero h = refl
  none_row first (suc count) h =
      elim (cases_Bool (is_left r held first)) [
        | inl t ↦ absurd (let q : Some first ≡ None = sym (next_hit r held first count t) ∙ h in let z : ⊥ = cc in z)
        | inr f ↦ none_by (found held r.plan.old first) first (row r held (suc first) count) refl f (none_row (suc first) count (sym
            (next_skip r held first count f) ∙ h))
      ]

  -- where `to_wrap` returns none, nothing is left to wrap
  pub handed_none : next_to_wrap r held ≡ None → sends_of r (above_low r.plan held) ≡ []
  handed_none h = none_row (low r.plan + 1) (highest held r.plan.old - low r.plan) h

-- The payloads of a node in Recovery, from the state that it keeps
abbrev pub offered : {A : Type 0} → RecoveryState A → List (Message A) → List (Payload A)
offered r held = sends_of r (above_low r.plan held) ++ (if has_own_end r.me r.seen then [] else End ∷ [])

-- they are those of the definition, where all messages of the new ring were seen
pub offered_all : {A : Type 0} (me : ℕ) (p : Plan) (running : RingId) (held : List (Message A)) → offered (record {
  me = me;
  plan = p;
  seen =
      of_ring running held;
}) held ≡ wraps_and_end me p running held
offered_all me p running held = refl

-- a message that is found is of the ring
found_ring : {A : Type 0} (held : List (Message A)) (ring : RingId) (n : ℕ) (x : Message A) → found held ring n ≡ Some x → same_ring x.ring ring ≡ true
found_ring [] ring n x e = absurd cc
found_ring {A} (y ∷ held) ring n x e =
    elim (cases_Bool (is_numbered ring n y)) [
      | inl h ↦ (let s : Some y ≡ Some x = sym (cond-true (is_numbered ring n y) (Some y) (found held ring n) h) ∙ e in
          sym (ap (λ (z : Message A). same_ring z.ring ring) (same_Some y x s)) ∙ (and_parts (same_ring y.ring ring) (y.number == n) h).0)
      | inr h ↦ found_ring held ring n x (sym (cond-false (is_numbered ring n y) (Some y) (found held ring n) h) ∙ e)
    ]

-- a Wrapped carries the ring and number of its message, and is no End
module _ {A : Type 0} (x : Message A) where
  pub wrap_says : (q p : Payload A) → wrap_content x (content_of q) ≡ Some p → (old : RingId) (k : ℕ)
      → (is_wrap_of old k p ≡ (same_ring x.ring old && (x.number == k))) × (is_end p ≡ false)
  wrap_says (Call call) p h old k = (let s = same_Some _ p h in (sym (ap (is_wrap_of old k) s), sym (ap is_end s)))
  wrap_says (Wrapped other) p h old k = absurd cc
  wrap_says End p h old k = absurd cc
  wrap_says (Head head) p h old k = (let s = same_Some _ p h in (sym (ap (is_wrap_of old k) s), sym (ap is_end s)))
  wrap_says (Part part) p h old k = (let s = same_Some _ p h in (sym (ap (is_wrap_of old k) s), sym (ap is_end s)))
  wrap_says (Pack pack) p h old k = (let s = same_Some _ p h in (sym (ap (is_wrap_of old k) s), sym (ap is_end s)))
  wrap_says (Snap snap) p h old k = (let s = same_Some _ p h in (sym (ap (is_wrap_of old k) s), sym (ap is_end s)))

module _ {A : Type 0} (r : RecoveryState A) (held : List (Message A)) where
  -- first the message of the number that `to_wrap` returns, and once it is seen wrapped, the others
  pub offered_next : (n : ℕ) (x m : Message A) (p : Payload A) → next_to_wrap r held ≡ Some n → found held r.plan.old n ≡ Some x → wrap x ≡ Some p
      → m.payload ≡ p
      → offered r held ≡ p ∷ offered (with_seen r m) held
  offered_next n x m p next there w e =
      let old = r.plan.old in
      let of_old = found_ring held old n x there in
      let number = found_number held old n x there in
      let wraps : Wraps m old n = λ k. ap (is_wrap_of old k) e ∙ (wrap_says x x.payload p w old k).0 ∙ ap (λ b. b && (x.number == k)) of_old
      ∙ ap (λ j. j == k) number in
      let no_end : is_end m.payload ≡ false = ap is_end e ∙ (wrap_says x x.payload p w old n).1 in
      let i = handed r held m n wraps next in
      let same : i.message ≡ x = same_Some i.message x (sym i.is_found ∙ there) in
      let payload : i.payload ≡ p = same_Some i.payload p (sym i.is_wrap ∙ ap wrap same ∙ w) in
      let ended : has_own_end r.me (m ∷ r.seen) ≡ has_own_end r.me r.seen = ap (λ b. (b && (m.sender == r.me)) || has_own_end r.me r.seen) no_end in
      let others = sends_of (with_seen r m) (above_low r.plan held) in
      ap (λ (ps : List (Payload A)). ps ++ (if has_own_end r.me r.seen then [] else End ∷ [])) (i.then_others ∙ ap (λ (q : Payload A). q ∷ others) payload)
      ∙ ap (λ b. p ∷ (others ++ (if b then [] else End ∷ []))) (sym ended)

  -- where nothing is left to wrap, one End
  pub offered_end : next_to_wrap r held ≡ None → has_own_end r.me r.seen ≡ false → offered r held ≡ End ∷ []
  offered_end none not_yet = ap (λ (ps : List (Payload A)). ps ++ (if has_own_end r.me r.seen then [] else End ∷ [])) (handed_none r held none)
      ∙ cond-false (has_own_end r.me r.seen) [] (End ∷ []) not_yet

  -- and nothing once that End is seen
  pub offered_none : next_to_wrap r held ≡ None → has_own_end r.me r.seen ≡ true → offered r held ≡ []
  offered_none none ended = ap (λ (ps : List (Payload A)). ps ++ (if has_own_end r.me r.seen then [] else End ∷ [])) (handed_none r held none)
      ∙ cond-true (has_own_end r.me r.seen) [] (End ∷ []) ended

  -- an End wraps nothing
  pub next_after_end : (m : Message A) → m.payload ≡ End → next_to_wrap (with_seen r m) held ≡ next_to_wrap r held
  next_after_end m e =
      ap (λ (t : ℕ → Bool). first_number (filter (λ (x : Message A). is_user x.payload) (filter (λ (x : Message A). not (t x.number)) (above_low r.plan held))))
      (fun_ext (λ k. ap (λ (q : Payload A). is_wrap_of r.plan.old k q || is_wrapped r.seen r.plan.old k) e))
