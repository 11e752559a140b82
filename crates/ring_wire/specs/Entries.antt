-- How the entries of a commit token are encoded.
-- Rules: The commit token 2
-- Formats: The commit entry
use Rattle.std.proofs.Common.{◌≡◌, ℕ, zero, suc, ◌+◌, ◌<◌, ◌≤◌, ◌*◌, ◌/◌, ◌%◌, Bool, true, false, List, [], ◌∷◌, length, Option, refl, subst, arith}
use Rattle.std.proofs.Common.{add-one, inl, inr, eq-eqb}
use Rattle.std.specs.Prelude.{nat_le, nat_lt, ◌&&◌, ◌||◌, not, ◌==◌, slice_index}
use Rattle.std.specs.List.{AllByRecursion, list_all}
use Rattle.std.proofs.lemmas.Nat.Bits.{bit_at-zero}
use Rattle.std.proofs.lemmas.Bool.{cases_lt, cases_Bool, leb-true, le-leb, ltb-false, le-ltb, eqb-true, and_parts, not-true, and_cases, or_parts}
use Rattle.std.proofs.lemmas.Bool.{both_ways, and_right}
use Rattle.byteorder.specs.Endian.{big_bytes}
use Rattle.ring_payload.specs.Base.{max_number, window_size, has_bit, RingId}
use Rattle.ring_payload.specs.Codecs.{IsFormat, tested_at, mapped_at, ◌⊕◌, Format, u64_field, text, ◌&◌, tested_fields_format, ring, ring_encoding, RingFits}
use Rattle.ring_wire.specs.declared.entries.CommitEntry.{CommitEntry}

-- ---- the held bits: bit j mod 8 of byte j div 8 stands for the number front + 1 + j

-- whether bit j is set
abbrev pub bit_of : List ℕ → ℕ → Bool
bit_of held j = has_bit (slice_index held (j / 8)) (j % 8)

-- bit j may be set: it isn't the first, and its number is at most mark + 256
pub record MayHold (front mark j : ℕ) : Type 0 where
  pub later : 1 ≤ j
  pub inside : front + 1 + j ≤ mark + window_size

-- whether bit j is set although it must be clear
abbrev pub is_invalid_bit : ℕ → ℕ → List ℕ → ℕ → Bool
is_invalid_bit front mark held j = bit_of held j && ((j == 0) || nat_lt (mark + window_size) (front + 1 + j))

-- whether none of the first n bits is set although it must be clear
unfoldable pub held_test : ℕ → ℕ → List ℕ → ℕ → Bool
held_test front mark held zero = true
held_test front mark held (suc j) = held_test front mark held j && not (is_invalid_bit front mark held j)

-- the test is true of the first 0 bits
pub held_test-zero : (front mark : ℕ) (held : List ℕ) → held_test front mark held 0 ≡ true
unfolding held_test
held_test-zero front mark held = refl

-- one more bit that is valid keeps the test true
pub held_test-more : (front mark : ℕ) (held : List ℕ) (j : ℕ) → held_test front mark held j ≡ true
    → is_invalid_bit front mark held j ≡ false → held_test front mark held (j + 1) ≡ true
unfolding held_test
held_test-more front mark held j h w = rw (add-one, h, w) refl

-- one invalid bit makes the test false
pub held_test-wrong : (front mark : ℕ) (held : List ℕ) (j n : ℕ) → j < n → is_invalid_bit front mark held j ≡ true → held_test front mark held n ≡ false
unfolding held_test
held_test-wrong front mark held j zero lt w = absurd (omega arith)
held_test-wrong front mark held j (suc n) lt w =
    elim (cases_lt j n) [
      | inl below ↦ rw (held_test-wrong front mark held j n below w) refl
      | inr at ↦ let e : n ≡ j = omega arith in rw (e, w) (and_right (held_test front mark held j) false refl)
    ]

-- a test that is false for fewer bits is false for more
pub held_test-longer_list : (front mark : ℕ) (held : List ℕ) (m n : ℕ) → m ≤ n → held_test front mark held m ≡ false → held_test front mark held n ≡ false
unfolding held_test
held_test-longer_list front mark held m zero le wrong =
    absurd (let e : m ≡ 0 = omega arith in both_ways _ (subst (λ (k : ℕ). held_test front mark held k ≡ false) e wrong)
    (held_test-zero front mark held))
held_test-longer_list front mark held m (suc n) le wrong =
    elim (cases_lt n m) [
      | inl all ↦ subst (λ (k : ℕ). held_test front mark held k ≡ false) (let e : m ≡ suc n = omega arith in e) wrong
      | inr less ↦ rw (held_test-longer_list front mark held m n less wrong) refl
    ]

-- a byte that is 0 has no bit set
no_bit : (held : List ℕ) (byte bit : ℕ) → bit < 8 → slice_index held byte ≡ 0 → bit_of held (8 * byte + bit) ≡ false
no_bit held byte bit lt none =
    let place : (8 * byte + bit) / 8 ≡ byte = omega arith in
    rw (place, none, bit_at-zero ((8 * byte + bit) % 8)) refl

no_wrong : (front mark : ℕ) (held : List ℕ) (byte bit : ℕ) → bit < 8 → slice_index held byte ≡ 0 → is_invalid_bit front mark held (8 * byte + bit) ≡ false
no_wrong front mark held byte bit lt none = rw (no_bit held byte bit lt none) refl

skipped : (front mark : ℕ) (held : List ℕ) (byte bits : ℕ) → bits ≤ 8 → slice_index held byte ≡ 0 → held_test front mark held (8 * byte) ≡ true
    → held_test front mark held (8 * byte + bits) ≡ true
skipped front mark held byte zero le none before = subst (λ (k : ℕ). held_test front mark held k ≡ true)
    (let e : 8 * byte ≡ 8 * byte + 0 = omega arith in e) before
skipped front mark held byte (suc bits) le none before =
    let more = held_test-more front mark held (8 * byte + bits)
    (skipped front mark held byte bits (omega arith) none before)
    (no_wrong front mark held byte bits (omega arith) none) in
    subst (λ (k : ℕ). held_test front mark held k ≡ true) (let e : 8 * byte + bits + 1 ≡ 8 * byte + suc bits = omega arith in e) more

-- a byte that is 0 keeps the test true
pub held_test-skip : (front mark : ℕ) (held : List ℕ) (byte : ℕ) → slice_index held byte ≡ 0
    → held_test front mark held (8 * byte) ≡ true → held_test front mark held (8 * byte + 8) ≡ true
held_test-skip front mark held byte none before = skipped front mark held byte 8 (omega arith) none before

may_hold : (front mark : ℕ) (held : List ℕ) (j : ℕ) → is_invalid_bit front mark held j ≡ false → bit_of held j ≡ true → MayHold front mark j
may_hold front mark held j right set =
    elim (and_cases _ _ right) [
      | inl clear ↦ absurd (both_ways _ clear set)
      | inr fine ↦
          let both : ((j == 0) ≡ false) × (nat_lt (mark + window_size) (front + 1 + j) ≡ false) = or_parts _ _ fine in
          elim (cases_lt 0 j) [
            | inl some ↦ record { later = omega arith; inside = ltb-false _ _ both.1 }
            | inr none ↦ absurd (both_ways _ both.0 (eq-eqb j 0 (omega arith)))
          ]
    ]

-- the test is true only if each bit that is set may be set
pub held_test-true : (front mark : ℕ) (held : List ℕ) (n : ℕ) → held_test front mark held n ≡ true → (j : ℕ) → j < n
    → bit_of held j ≡ true → MayHold front mark j
unfolding held_test
held_test-true front mark held zero h j lt set = absurd (omega arith)
held_test-true front mark held (suc n) h j lt set =
    let both = and_parts _ _ h in
    elim (cases_lt j n) [
      | inl below ↦ held_test-true front mark held n both.0 j below set
      | inr at ↦
          let e : n ≡ j = omega arith in
          may_hold front mark held j (not-true _ (rw e at both.1)) set
    ]

not_wrong : (front mark : ℕ) (held : List ℕ) (j : ℕ) → (bit_of held j ≡ true → MayHold front mark j) → is_invalid_bit front mark held j ≡ false
not_wrong front mark held j may =
    elim (cases_Bool (bit_of held j)) [
      | inl set ↦
          let m = may set in
          let some : (j == 0) ≡ false = elim (cases_Bool (j == 0)) [ inl e ↦ absurd (omega (arith, eqb-true j 0 e, m.later)) | inr e ↦ e ] in
          rw (set, some, le-ltb _ _ m.inside) refl
      | inr clear ↦ rw clear refl
    ]

-- the test is true if each bit that is set may be set
pub true-held_test : (front mark : ℕ) (held : List ℕ) (n : ℕ) → ((j : ℕ) → j < n → bit_of held j ≡ true
    → MayHold front mark j) → held_test front mark held n ≡ true
unfolding held_test
true-held_test front mark held zero may = refl
true-held_test front mark held (suc n) may = rw (
  true-held_test front mark held n (λ j lt. may j (omega arith)),
  not_wrong front mark held n (may n (omega arith)),
) refl

-- ---- bits that are all clear

-- whether each byte is 0, as a test
abbrev pub are_zero : List ℕ → Bool
are_zero bytes = list_all (λ b. b == 0) bytes

-- each byte is 0
abbrev pub AreZero : List ℕ → Type 0
AreZero bytes = AllByRecursion (λ b. b ≡ 0) bytes

are_zero-true : (bytes : List ℕ) → are_zero bytes ≡ true → AreZero bytes
are_zero-true [] h = tt
are_zero-true (b ∷ bytes) h = let both = and_parts _ _ h in (eqb-true b 0 both.0, are_zero-true bytes both.1)

true-are_zero : (bytes : List ℕ) → AreZero bytes → are_zero bytes ≡ true
true-are_zero [] z = refl
true-are_zero (b ∷ bytes) z = rw (eq-eqb b 0 z.0, true-are_zero bytes z.1) refl

-- ---- the entry: the old ring in 9 bytes, the front and the safe mark in 8 each, the held bits in 32

-- the encoding of an entry
abbrev pub entry_encoding : CommitEntry → List ℕ
entry_encoding e = ring_encoding e.old ⊕ big_bytes 8 e.front ⊕ big_bytes 8 e.mark ⊕ e.held

-- front, mark and all bits are 0, as in the report of a member that has been in no ring yet
pub record ReportsNothing (e : CommitEntry) : Type 0 where
  pub front : e.front ≡ 0
  pub mark : e.mark ≡ 0
  pub held : AreZero e.held

-- the limits of an entry; whose it is, and that its ring is older, are limits of the commit token
pub record EntryFits (e : CommitEntry) : Type 0 where
  pub old : RingFits e.old
  pub bits : length e.held ≡ 32
  pub mark : e.mark ≤ e.front
  pub front : e.front ≤ max_number
  pub window : e.front ≤ e.mark + window_size
  pub held : (j : ℕ) → j < window_size → bit_of e.held j ≡ true → MayHold e.front e.mark j
  pub nothing : e.old.seq ≡ 0 → ReportsNothing e

-- `ReportsNothing` as a test
abbrev pub nothing_test : CommitEntry → Bool
nothing_test e = (e.front == 0) && ((e.mark == 0) && are_zero e.held)

-- whether the fields are within their limits, as a test
abbrev pub entry_test : CommitEntry → Bool
entry_test e = nat_le e.mark e.front
    && (nat_le e.front max_number && (nat_le e.front (e.mark + window_size)
    && (held_test e.front e.mark e.held window_size && (not (e.old.seq == 0) || nothing_test e))))

is_opening_report : (e : CommitEntry) → (not (e.old.seq == 0) || nothing_test e) ≡ true → e.old.seq ≡ 0 → ReportsNothing e
is_opening_report e h z =
    let new : (e.old.seq == 0) ≡ true = eq-eqb _ _ z in
    let passed : nothing_test e ≡ true = rw new at h in
    let a = and_parts _ _ passed in
    let b = and_parts _ _ a.1 in
    record { front = eqb-true _ _ a.0; mark = eqb-true _ _ b.0; held = are_zero-true e.held b.1 }

nothing_is : (e : CommitEntry) → (e.old.seq ≡ 0 → ReportsNothing e) → (not (e.old.seq == 0) || nothing_test e) ≡ true
nothing_is e n = elim (cases_Bool (e.old.seq == 0)) [
  | inl new ↦
      let r = n (eqb-true _ _ new) in
      rw (new, eq-eqb _ _ r.front, eq-eqb _ _ r.mark, true-are_zero e.held r.held) refl
  | inr old ↦ rw old refl
]

-- the fields of an entry, in order
abbrev EntryFields : Type 0
EntryFields = RingId × (ℕ × (ℕ × List ℕ))

-- the format of these fields
abbrev entry_fields : Format EntryFields
entry_fields = ring & u64_field & u64_field & text 32

-- the entry with these fields
abbrev from_fields : EntryFields → CommitEntry
from_fields p = record { old = p.0; front = p.1.0; mark = p.1.1.0; held = p.1.1.1 }

-- reads an entry from the front
unfoldable pub entry_at : List ℕ → Option (CommitEntry × List ℕ)
entry_at bytes = tested_at entry_test (mapped_at from_fields entry_fields.at) bytes

-- an entry is read exactly
pub entry_format : IsFormat entry_encoding EntryFits entry_at
unfolding entry_at
entry_format = tested_fields_format entry_fields from_fields entry_test entry_encoding EntryFits (record {
  encoded = λ p. refl;
  fits = λ p f passed.
      let a = and_parts _ _ passed in
      let b = and_parts _ _ a.1 in
      let c = and_parts _ _ b.1 in
      let d = and_parts _ _ c.1 in
      record {
        old = f.0;
        bits = f.1.1.1;
        mark = leb-true _ _ a.0;
        front = leb-true _ _ b.0;
        window = leb-true _ _ c.0;
        held = held_test-true p.1.0 p.1.1.0 p.1.1.1 window_size d.0;
        nothing = is_opening_report (from_fields p) d.1;
      };
  back = λ e f. ((e.old, (e.front, (e.mark, e.held))), (f.old, (omega (arith, f.front), (omega (arith, f.front, f.mark), f.bits))), refl);
  passes = λ e f. rw (le-leb _ _ f.mark, le-leb _ _ f.front, le-leb _ _ f.window, true-held_test e.front e.mark e.held window_size f.held, nothing_is e f.nothing) refl;
})

-- the format of entries
abbrev pub entry : Format CommitEntry
entry = record { encoding = entry_encoding; Fits = EntryFits; at = entry_at; exact = entry_format }
