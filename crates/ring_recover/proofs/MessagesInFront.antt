-- The messages of a new ring in the front, as the front rises.
use Rattle.std.proofs.Common.{◌≡◌, ℕ, zero, suc, ◌+◌, ◌-◌, ◌<◌, ◌≤◌, true, false, List, [], ◌∷◌, ◌++◌, filter_map}
use Rattle.std.proofs.Common.{length, Option, Some, None, refl, ap, ◌∙◌, sym, subst, inl, inr, arith, length-append}
use Rattle.std.specs.List.{cons_option}
use Rattle.std.specs.Prelude.{nat_lt, ◌==◌, ◌||◌}
use Rattle.std.proofs.lemmas.Bool.{cases_Bool, cond-true, cond-false, lt-ltb, and_parts, eqb-true, true≢false}
use Rattle.std.proofs.lemmas.List.{append-nil}
use Rattle.std.proofs.lemmas.List.Elements.{filter_map-append}
use Rattle.ring_base.specs.Prefixes.{IsListPrefix, prefix_length, prefix_shorter, prefix_whole}
use Rattle.ring_base.specs.Numbers.{numbers_from}
use Rattle.ring_base.specs.FilteredRanges.{length-numbers_from}
use Rattle.ring_base.specs.Rings.{same_ring}
use Rattle.ring_base.specs.declared.ring_id.RingId.{RingId}
use Rattle.ring_base.proofs.Cases.{or-true}
use Rattle.ring_base.proofs.ListPlaces.{numbers-append}
use Rattle.ring_window.specs.Messages.{Message}
use Rattle.ring_window.specs.Held.{is_numbered, found, holds, front_of}
use Rattle.ring_window.specs.Windows.{WindowHistory, message_above_mark}
use Rattle.ring_window.proofs.HeldFront.{front_is, front_grows}
use Rattle.ring_window.proofs.Finding.{holds-found}
use Rattle.ring_recover.specs.Installing.{in_front}

-- the ring's messages up to a number
abbrev pub up_to : {A : Type 0} → List (Message A) → RingId → ℕ → List (Message A)
up_to held ring k = filter_map (found held ring) (numbers_from 1 k)

few_by : {A : Type 0} (o : Option (Message A)) (xs : List (Message A)) (n : ℕ) → length xs ≤ n → length (cons_option o xs) ≤ suc n
few_by None xs n l = omega arith
few_by (Some x) xs n l = omega arith

module _ {A : Type 0} (held : List (Message A)) (ring : RingId) where
  parts : (a b : ℕ) → up_to held ring (a + b) ≡ up_to held ring a ++ filter_map (found held ring) (numbers_from (1 + a) b)
  parts a b = ap (filter_map (found held ring)) (sym (numbers-append 1 a b)) ∙ filter_map-append (found held ring) (numbers_from 1 a) (numbers_from (1 + a) b)

  -- one number more
  pub up_to_some : (k : ℕ) (x : Message A) → found held ring (k + 1) ≡ Some x → up_to held ring (k + 1) ≡ up_to held ring k ++ x ∷ []
  up_to_some k x h = (let e : k + 1 ≡ 1 + k = omega arith in
      parts k 1 ∙ ap (λ (o : Option (Message A)). up_to held ring k ++ cons_option o []) (ap (found held ring) (sym e) ∙ h))

  pub up_to_none : (k : ℕ) → found held ring (k + 1) ≡ None → up_to held ring (k + 1) ≡ up_to held ring k
  up_to_none k h = (let e : k + 1 ≡ 1 + k = omega arith in
      parts k 1 ∙ ap (λ (o : Option (Message A)). up_to held ring k ++ cons_option o []) (ap (found held ring) (sym e) ∙ h) ∙ append-nil (up_to held ring k))

  few_in : (ns : List ℕ) → length (filter_map (found held ring) ns) ≤ length ns
  few_in [] = omega arith
  few_in (n ∷ ns) = few_by (found held ring n) (filter_map (found held ring) ns) (length ns) (few_in ns)

  pub up_to_few : (k : ℕ) → length (up_to held ring k) ≤ k
  up_to_few k = omega (arith, few_in (numbers_from 1 k), length-numbers_from 1 k)

  -- each number up to the front has its message
  pub up_to_all : (k : ℕ) → k ≤ front_of held ring → length (up_to held ring k) ≡ k
  up_to_all zero l = refl
  up_to_all (suc k) l =
      let x = holds-found held ring (k + 1) ((front_is held ring).below (k + 1) (omega arith) (omega arith)) in
      let e : suc k ≡ k + 1 = omega arith in
      ap (λ n. length (up_to held ring n)) e ∙ ap length (up_to_some k x.0 x.1)
      ∙ omega (arith, length-append (up_to held ring k) (x.0 ∷ []), up_to_all k (omega arith))

  pub up_to_front : (k : ℕ) → k ≤ front_of held ring → IsListPrefix (up_to held ring k) (in_front held ring)
  up_to_front k l =
      let e : k + (front_of held ring - k) ≡ front_of held ring = omega arith in
      (filter_map (found held ring) (numbers_from (1 + k) (front_of held ring - k)), sym (parts k (front_of held ring - k)) ∙ ap (up_to held ring) e)

  pub front_short : (xs : List (Message A)) → IsListPrefix xs (in_front held ring) → length xs ≤ front_of held ring
  front_short xs f = omega (arith, prefix_length xs (in_front held ring) f, up_to_all (front_of held ring) (omega arith))

  -- a prefix of the messages in the front is those up to some number
  pub front_up_to : (xs : List (Message A)) → IsListPrefix xs (in_front held ring) → xs ≡ up_to held ring (length xs)
  front_up_to xs f =
      let l = front_short xs f in
      let n = up_to_all (length xs) l in
      prefix_whole xs (up_to held ring (length xs)) (prefix_shorter xs (up_to held ring (length xs)) (in_front held ring) f (up_to_front
      (length xs) l) (omega arith)) (omega arith)

-- the message of a number above its mark that a window still keeps
pub kept_found : {A : Type 0} (w : WindowHistory A) (n : ℕ) → w.mark < n → message_above_mark w n ≡ found w.held w.ring n
kept_found w n l = cond-true (nat_lt w.mark n) (found w.held w.ring n) None (lt-ltb w.mark n l)

-- Once a message of a new number is held, the messages that were in the front are a prefix of those in it now

found_more : {A : Type 0} (x : Message A) (held : List (Message A)) (ring : RingId) (n : ℕ) → holds held ring x.number ≡ false
    → holds held ring n ≡ true → found (x ∷ held) ring n ≡ found held ring n
found_more x held ring n new old =
    elim (cases_Bool (is_numbered ring n x)) [
      | inl h ↦ (let e : x.number ≡ n = eqb-true x.number n (and_parts (same_ring x.ring ring) (x.number == n) h).1 in absurd (true≢false (sym (ap
          (holds held ring) e ∙ old) ∙ new)))
      | inr h ↦ cond-false (is_numbered ring n x) (Some x) (found held ring n) h
    ]

holds_more : {A : Type 0} (x : Message A) (held : List (Message A)) (ring : RingId) (n : ℕ) → holds held ring n ≡ true → holds (x ∷ held) ring n ≡ true
holds_more x held ring n h = ap (λ b. is_numbered ring n x || b) h ∙ or-true (is_numbered ring n x)

module _ {A : Type 0} (x : Message A) (held : List (Message A)) (ring : RingId) (new : holds held ring x.number ≡ false) where
  same_up_to : (k : ℕ) → k ≤ front_of held ring → up_to (x ∷ held) ring k ≡ up_to held ring k
  same_up_to zero l = refl
  same_up_to (suc k) l =
      let e : suc k ≡ k + 1 = omega arith in
      let there = (front_is held ring).below (k + 1) (omega arith) (omega arith) in
      let y = holds-found held ring (k + 1) there in
      ap (up_to (x ∷ held) ring) e
      ∙ up_to_some (x ∷ held) ring k y.0 (found_more x held ring (k + 1) new there ∙ y.1)
      ∙ ap (λ ys. ys ++ y.0 ∷ []) (same_up_to k (omega arith))
      ∙ sym (up_to_some held ring k y.0 y.1)
      ∙ sym (ap (up_to held ring) e)

  pub front_with : IsListPrefix (in_front held ring) (in_front (x ∷ held) ring)
  front_with =
      let l = front_grows held (x ∷ held) ring (λ n h. holds_more x held ring n h) in
      subst (λ ys. IsListPrefix ys (in_front (x ∷ held) ring)) (same_up_to (front_of held ring) (omega arith)) (up_to_front (x ∷ held) ring (front_of held ring) l)
