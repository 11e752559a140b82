-- The digits that a text begins with, and the word that they are.
use Rattle.std.proofs.Common.{◌≡◌, ℕ, zero, suc, ◌+◌, ◌-◌, ◌*◌, ◌<◌, Bool, true, false, List, [], ◌∷◌, ◌++◌, length, take, drop, get_or, Option, Some, None}
use Rattle.std.proofs.Common.{refl, sym, subst, arith, inl, inr}
use Rattle.std.specs.Prelude.{◌==◌, nat_le, is_some, not}
use Rattle.std.specs.Borrow.{Bor}
use Rattle.std.specs.Char.{is_ascii_digit}
use Rattle.std.specs.List.{list_all}
use Rattle.std.specs.Str.Parse.{digits_value}
use Rattle.std.proofs.lemmas.Bool.{cases_Bool, eqb-true, eq-eqb, and_parts, leb-true}
use Rattle.std.proofs.lemmas.Int.Digits.{digits_value_more}
use Rattle.std.proofs.lemmas.List.{take-append-drop, append-nil, length-append}
use Rattle.std.proofs.lemmas.List.Folds.{list_all_more, list_all-append}
use Rattle.std.proofs.lemmas.Str.{digit_value_digit}
use Rattle.ring_script.specs.Numbers.{is_decimal, number_of, BeginsWith, decimal_at}
use Rattle.ring_script.specs.Words.{pieces, with_first, pieces_left}

abbrev AreDigits : List ℕ → Type 0
AreDigits word = list_all is_ascii_digit word ≡ true

-- ---- read one by one.

pub digits_more : (text : List ℕ) (n : ℕ) → n < length text → AreDigits (take n text) → is_ascii_digit (get_or text n 0) ≡ true → AreDigits (take (n + 1) text)
digits_more text n lt h e = rw (list_all_more is_ascii_digit text n 0 lt, h, e) refl

pub value_more : (text : List ℕ) (n : ℕ) → n < length text → is_ascii_digit (get_or text n 0) ≡ true
    → digits_value 10 (take n text) * 10 + (get_or text n 0 - 48) ≡ digits_value 10 (take (n + 1) text)
value_more text n lt e =
    let parts = and_parts (nat_le 48 (get_or text n 0)) (nat_le (get_or text n 0) 57) e in
    let digit = digit_value_digit (get_or text n 0) (leb-true 48 (get_or text n 0) parts.0, leb-true (get_or text n 0) 57 parts.1) in
    let more = digits_value_more 10 text n lt in
    omega (arith, digit, more)

-- ---- the first word.

-- The text doesn't begin with a digit.
abbrev pub GoesOn : List ℕ → Type 0
GoesOn [] = Unit {0}
GoesOn (b ∷ rest) = is_ascii_digit b ≡ false

-- A digit is no separator.
no_separator : (separator d : ℕ) → is_ascii_digit separator ≡ false → is_ascii_digit d ≡ true → (d == separator) ≡ false
no_separator separator d none digit =
    elim (cases_Bool (d == separator)) [
      | inl same ↦ let e = eqb-true d separator same in absurd (cc)
      | inr other ↦ other
    ]

-- Digits before a text come before its first piece.
pieces_behind : (separator : ℕ) (digits rest first : List ℕ) (others : List (List ℕ)) → AreDigits digits → is_ascii_digit separator ≡ false
    → pieces separator rest ≡ first ∷ others → pieces separator (digits ++ rest) ≡ (digits ++ first) ∷ others
unfolding pieces
pieces_behind separator [] rest first others h none e = e
pieces_behind separator (d ∷ digits) rest first others h none e =
    let parts = and_parts (is_ascii_digit d) (list_all is_ascii_digit digits) h in
    rw (no_separator separator d none parts.0, pieces_behind separator digits rest first others parts.1 none e) refl

-- The first piece of a text that doesn't begin with a digit.
record Opens (separator : ℕ) (rest : List ℕ) : Type 0 where
  first : List ℕ
  others : List (List ℕ)
  parted : pieces separator rest ≡ first ∷ others
  goes_on : GoesOn first

opens : (separator : ℕ) (rest : List ℕ) → GoesOn rest → Opens separator rest
unfolding pieces
opens separator [] goes_on = record { first = []; others = []; parted = refl; goes_on = tt }
opens separator (b ∷ rest) goes_on =
    elim (cases_Bool (b == separator)) [
      | inl here ↦ record { first = []; others = pieces separator rest; parted = rw here refl; goes_on = tt }
      | inr later ↦ before (pieces separator rest) refl later
    ]
  where
    before : (others : List (List ℕ)) → pieces separator rest ≡ others → (b == separator) ≡ false → Opens separator (b ∷ rest)
    before [] e later = record { first = b ∷ []; others = []; parted = rw (later, e) refl; goes_on = goes_on }
    before (piece ∷ others) e later = record { first = b ∷ piece; others = others; parted = rw (later, e) refl; goes_on = goes_on }

-- ---- words that are no number.

above_zero : (n : ℕ) → 0 < n → (n == 0) ≡ false
above_zero n lt =
    elim (cases_Bool (n == 0)) [
      | inl none ↦ absurd (omega (arith, lt, eqb-true n 0 none))
      | inr some ↦ some
    ]

-- A word with more than its leading digits is no number.
broken : (digits : List ℕ) (b : ℕ) (rest : List ℕ) → AreDigits digits → is_ascii_digit b ≡ false → is_decimal (digits ++ b ∷ rest) ≡ false
broken [] b rest h e =
    elim (cases_Bool (b == 48)) [
      | inl here ↦ let same = eqb-true b 48 here in let bad = rw same at e in absurd (cc)
      | inr other ↦ rw (other, e) refl
    ]
broken (c ∷ digits) b rest h e =
    elim (cases_Bool (c == 48)) [
      | inl here ↦ rw here (above_zero (length (digits ++ b ∷ rest)) (omega (arith, length-append digits (b ∷ rest))))
      | inr other ↦ rw (other, list_all-append is_ascii_digit (c ∷ digits) (b ∷ rest), h, e) refl
    ]

-- Nor are digits that are no number on their own.
none_behind : (digits first : List ℕ) → AreDigits digits → GoesOn first → is_decimal digits ≡ false → is_decimal (digits ++ first) ≡ false
none_behind digits [] h goes_on none = rw (append-nil digits) none
none_behind digits (b ∷ rest) h goes_on none = broken digits b rest h goes_on

none_read : (separator : ℕ) (digits rest first : List ℕ) (others : List (List ℕ)) → AreDigits digits → is_ascii_digit separator ≡ false
    → pieces separator rest ≡ first ∷ others → is_decimal (digits ++ first) ≡ false → decimal_at (pieces separator (digits ++ rest)) ≡ None
unfolding number_of
none_read separator digits rest first others h none e bad = rw (pieces_behind separator digits rest first others h none e, bad) refl

-- The text after its leading digits.
rest_goes_on : (text : List ℕ) (n : ℕ) → (n < length text → is_ascii_digit (get_or text n 0) ≡ false) → GoesOn (drop n text)
rest_goes_on [] zero e = tt
rest_goes_on [] (suc n) e = tt
rest_goes_on (b ∷ text) zero e = e (omega arith)
rest_goes_on (b ∷ text) (suc n) e = rest_goes_on text n (λ lt. e (omega (arith, lt)))

pub decimal-none : (separator : ℕ) (text : List ℕ) (n : ℕ) (value : Option ℕ) → is_ascii_digit separator ≡ false → BeginsWith text n value
    → is_decimal (take n text) ≡ false → decimal_at (pieces separator text) ≡ None
decimal-none separator text n value none begins bad =
    let goes_on = rest_goes_on text n begins.ended in
    let o = opens separator (drop n text) goes_on in
    subst (λ (whole : List ℕ). decimal_at (pieces separator whole) ≡ None) (take-append-drop n text)
    (none_read separator (take n text) (drop n text) o.first o.others begins.digits none o.parted
    (none_behind (take n text) o.first begins.digits o.goes_on bad))

-- Another byte follows the digits.
broken_read : (separator : ℕ) (digits rest : List ℕ) → AreDigits digits → is_ascii_digit separator ≡ false → GoesOn rest → 0 < length rest
    → (get_or rest 0 0 == separator) ≡ false → decimal_at (pieces separator (digits ++ rest)) ≡ None
unfolding pieces
broken_read separator digits [] h none goes_on some other = absurd (omega (arith, some))
broken_read separator digits (b ∷ rest) h none goes_on some other = before (pieces separator rest) refl
  where
    before : (others : List (List ℕ)) → pieces separator rest ≡ others → decimal_at (pieces separator (digits ++ b ∷ rest)) ≡ None
    before [] e = none_read separator digits (b ∷ rest) (b ∷ []) [] h none (rw (other, e) refl) (broken digits b [] h goes_on)
    before (piece ∷ others) e =
        none_read separator digits (b ∷ rest) (b ∷ piece) others h none (rw (other, e) refl) (broken digits b piece h goes_on)

pub decimal-broken : (separator : ℕ) (text : List ℕ) (n : ℕ) (value : Option ℕ) → is_ascii_digit separator ≡ false → BeginsWith text n value
    → 0 < length (drop n text) → (get_or (drop n text) 0 0 == separator) ≡ false → decimal_at (pieces separator text) ≡ None
decimal-broken separator text n value none begins some other =
    subst (λ (whole : List ℕ). decimal_at (pieces separator whole) ≡ None) (take-append-drop n text)
    (broken_read separator (take n text) (drop n text) begins.digits none (rest_goes_on text n begins.ended) some other)

-- ---- a word that is a number.

pub decimal-read : (separator : ℕ) (text : List ℕ) (n : ℕ) (value : Option ℕ) (left : Option (Bor (List ℕ))) → is_ascii_digit separator ≡ false
    → BeginsWith text n value → is_decimal (take n text) ≡ true → pieces separator (drop n text) ≡ [] ∷ pieces_left separator left
    → decimal_at (pieces separator text) ≡ Some (value, pieces_left separator left)
unfolding number_of
decimal-read separator text n value left none begins plain parted =
    let whole = pieces_behind separator (take n text) (drop n text) [] (pieces_left separator left) begins.digits none parted in
    let first = rw (take-append-drop n text, append-nil (take n text)) at whole in
    rw (first, plain, ← begins.value_is) refl

-- ---- the rest after a separator.

pub pieces-empty : (separator : ℕ) (text : List ℕ) → length text ≡ 0 → pieces separator text ≡ [] ∷ []
unfolding pieces
pieces-empty separator [] e = refl
pieces-empty separator (b ∷ text) e = absurd (omega (arith, e))

pub pieces-parted : (separator first : ℕ) (text others : List ℕ) → text ≡ first ∷ others → first ≡ separator
    → pieces separator text ≡ [] ∷ pieces separator others
unfolding pieces
pieces-parted separator first text others e here = rw (e, eq-eqb first separator here) refl

-- ---- whether a word is left.

pieces_some : (separator : ℕ) (text : List ℕ) → 0 < length (pieces separator text)
unfolding pieces
pieces_some separator [] = omega arith
pieces_some separator (b ∷ text) =
    elim (cases_Bool (b == separator)) [
      | inl here ↦ rw here (omega arith)
      | inr later ↦ rw later (before (pieces separator text))
    ]
  where
    before : (others : List (List ℕ)) → 0 < length (with_first b others)
    before [] = omega arith
    before (piece ∷ others) = omega arith

pub none_left : (separator : ℕ) (rest : Option (Bor (List ℕ))) (none : Bool) → is_some rest ≡ not none
    → none ≡ (length (pieces_left separator rest) == 0)
none_left separator None true e = refl
none_left separator None false e = absurd cc
none_left separator (Some rest) true e = absurd cc
none_left separator (Some rest) false e = sym (above_zero (length (pieces separator rest.now)) (pieces_some separator rest.now))
