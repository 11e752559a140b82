-- The entry that a core reports of its last installed ring keeps the limits, by its marks, its window and each
-- message held.
use Rattle.std.proofs.Common.{◌≡◌, ℕ, zero, suc, ◌+◌, ◌*◌, ◌<◌, ◌≤◌, inl, inr, Bool, true, false, ◌==◌, List, refl, ap, sym, ◌∙◌, arith}
use Rattle.std.specs.Prelude.{if◌then◌else◌}
use Rattle.std.specs.List.{AllByRecursion as Each}
use Rattle.std.proofs.lemmas.Bool.{cases_Bool, cases_lt, and_parts, eqb-true, both_ways, false≢true}
use Rattle.ring_base.specs.Numbers.{max_number, word_from_test}
use Rattle.ring_base.specs.Rings.{same_ring}
use Rattle.ring_base.specs.declared.ring_id.RingId.{RingId}
use Rattle.ring_wire.specs.declared.message.Message.{Message}
use Rattle.ring_wire.specs.Messages.{MessageFits}
use Rattle.ring_wire.specs.Entries.{bit_of, AreZero, EntryFits}
use Rattle.ring_wire.specs.Commits.{IsReport}
use Rattle.ring_core_spec.specs.Windows.{is_numbered, holds, front_of, bytes_from_bits, held_bits}
use Rattle.ring_core_spec.proofs.Windows.{held_bit, front_is, length-bytes_from_bits}
use Rattle.ring_base.proofs.SameRing.{ring_same}
use Rattle.ring_core_spec.specs.State.{Core}
use Rattle.ring_core_spec.specs.Views.{front, mark, own_entry}
use Rattle.ring_core_proof.proofs.InLists.{in-each, any-some}
use Rattle.ring_core_proof.proofs.WithinWindow.{mark_below, held_below}
use Rattle.ring_core_proof.specs.Limits.{CoreFits}

-- Held messages

record IsFound (A : Type 0) (ring : RingId) (n : ℕ) : Type 0 where
  pub message : Message A
  pub fits : MessageFits message
  pub ring_is : message.ring ≡ ring
  pub number_is : message.number ≡ n

-- each held number is that of a message that keeps the limits
held_fits : {A : Type 0} → (held : List (Message A)) (ring : RingId) (n : ℕ) → Each MessageFits held → holds held ring n ≡ true → IsFound A ring n
held_fits held ring n each h =
    let (x, i, t) = any-some (is_numbered ring n) held h in
    let p = and_parts (same_ring x.ring ring) (x.number == n) t in
    record { message = x; fits = in-each MessageFits x held each i; ring_is = ring_same x.ring ring p.0; number_is = eqb-true x.number n p.1 }

pub held_most : {A : Type 0} → (held : List (Message A)) (ring : RingId) (n : ℕ) → Each MessageFits held → holds held ring n ≡ true → n ≤ max_number
held_most held ring n each h =
    let f = held_fits held ring n each h in
    let e : (f.message).number ≡ n = f.number_is in
    let l : (f.message).number ≤ max_number = (f.fits).number in
    omega (arith, e, l)

pub front_most : {A : Type 0} → (held : List (Message A)) (ring : RingId) → Each MessageFits held → front_of held ring ≤ max_number
front_most held ring each =
    elim (cases_lt 0 (front_of held ring)) [
      | inl some ↦ held_most held ring (front_of held ring) each ((front_is held ring).below (front_of held ring) (omega arith) (omega arith))
      | inr none ↦ omega (arith, none)
    ]

-- nothing is held of a ring of number 0
none_held : {A : Type 0} → (held : List (Message A)) (ring : RingId) → Each MessageFits held → ring.seq ≡ 0 → (n : ℕ) → holds held ring n ≡ false
none_held held ring each z n =
    elim (cases_Bool (holds held ring n)) [
      | inl t ↦
          let f = held_fits held ring n each t in
          let e : (f.message).ring.seq ≡ 0 = ap (λ (r : RingId). r.seq) f.ring_is ∙ z in
          let l : 1 ≤ (f.message).ring.seq = (f.fits).ring_counted in
          absurd (omega (arith, e, l))
      | inr f ↦ f
    ]

-- Bits

clear_sum : (b : Bool) (k : ℕ) → b ≡ false → k ≡ 0 → (if b then 1 else 0) + 2 * k ≡ 0
clear_sum true k e z = absurd (false≢true (sym e))
clear_sum false k e z = omega (arith, z)

clear_word : (test : ℕ → Bool) → ((n : ℕ) → test n ≡ false) → (first count : ℕ) → word_from_test test first count ≡ 0
clear_word test none first zero = refl
clear_word test none first (suc count) = clear_sum (test first) (word_from_test test (suc first) count) (none first) (clear_word test none (suc first) count)

clear_bytes : (test : ℕ → Bool) → ((n : ℕ) → test n ≡ false) → (first count : ℕ) → AreZero (bytes_from_bits test first count)
clear_bytes test none first zero = tt
clear_bytes test none first (suc count) = (clear_word test none first 8, clear_bytes test none (first + 8) count)

-- The report

module _ {A : Type 0} (c : Core A) (f : CoreFits c) where
  abbrev old : RingId
  old = c.installed.ring

  front_held : 1 ≤ front c old → holds c.held old (front c old) ≡ true
  front_held some = (front_is c.held old).below (front c old) some (omega arith)

  mark_front : mark c old ≤ front c old
  mark_front = mark_below c old f.window

  bit_holds : (j : ℕ) → j < 256 → bit_of (held_bits c.held old) j ≡ true → holds c.held old (front c old + 1 + j) ≡ true
  bit_holds j l t = sym (held_bit c.held old j l) ∙ t

  pub entry_fits : EntryFits (own_entry c)
  entry_fits =
      record {
        old = (f.installed).ring;
        bits = length-bytes_from_bits (holds c.held old) (front c old + 1) 32;
        mark = mark_front;
        front = front_most c.held old f.held;
        window = elim (cases_lt 0 (front c old)) [
          | inl some ↦ held_below c old (front c old) f.window (front_held (omega arith))
          | inr none ↦ omega (arith, none)
        ];
        held = λ j l t. record { later = later j l t; inside = held_below c old (front c old + 1 + j) f.window (bit_holds j l t) };
        nothing = λ z. record {
          front = no_front z;
          mark = (let a : front c old ≡ 0 = no_front z in let b = mark_front in omega (arith, a, b));
          held = clear_bytes (holds c.held old) (none_held c.held old f.held z) (front c old + 1) 32;
        };
      }
    where
      later : (j : ℕ) → j < 256 → bit_of (held_bits c.held old) j ≡ true → 1 ≤ j
      later j l t =
          elim (cases_lt 0 j) [
            | inl some ↦ omega (arith, some)
            | inr none ↦
                let e : front c old + 1 + j ≡ suc (front c old) = omega (arith, none) in
                absurd (both_ways (holds c.held old (suc (front c old))) (front_is c.held old).next (ap (holds c.held old) (sym e) ∙ bit_holds j l t))
          ]

      no_front : c.installed.ring.seq ≡ 0 → front c old ≡ 0
      no_front z =
          elim (cases_lt 0 (front c old)) [
            | inl some ↦ absurd (both_ways (holds c.held old (front c old)) (none_held c.held old f.held z (front c old)) (front_held (omega arith)))
            | inr none ↦ omega (arith, none)
          ]

  pub entry_reports : (r : RingId) → c.installed.ring.seq < r.seq → IsReport r c.me (own_entry c)
  entry_reports r l = record { older = l; self = λ z. f.own z }
