-- The lines of a text, counted byte after byte.
use Rattle.std.proofs.Common.{◌≡◌, ℕ, zero, suc, ◌+◌, ◌-◌, ◌<◌, ◌≤◌, Bool, true, false, if◌then◌else◌, List, [], ◌∷◌, ◌++◌, length, drop, get_or}
use Rattle.std.proofs.Common.{sym, ap, refl, subst, ◌∙◌, arith, inl, inr}
use Rattle.std.specs.Prelude.{◌==◌}
use Rattle.std.proofs.lemmas.Bool.{cases_Bool, eqb-true}
use Rattle.std.proofs.lemmas.List.{drop_more, drop_all}
use Rattle.ring_sweep.specs.VariantTexts.{lines_length, is_ended, ended_text}

-- A line begins where this number of lines has come before it; the text before `index` has all but those before `line`.
pub record IsAtLine (text : List ℕ) (number index line : ℕ) : Type 0 where
  pub first : 1 ≤ line
  pub most : line ≤ index + 1
  pub rest : lines_length (number - 1) text ≡ index + lines_length (number - line) (drop index text)

pub at_begin : (text : List ℕ) (number : ℕ) → IsAtLine text number 0 1
at_begin text number =
    let whole : lines_length (number - 1) (drop 0 text) ≡ lines_length (number - 1) text = refl in
    record { first = omega arith; most = omega arith; rest = omega (arith, whole) }

no_lines : (text : List ℕ) → lines_length 0 text ≡ 0
unfolding lines_length
no_lines text = refl

no_text : (n : ℕ) → lines_length n [] ≡ 0
unfolding lines_length
no_text zero = refl
no_text (suc n) = refl

-- The byte at the index ends a line, or not.
line_ends : (n b : ℕ) (text : List ℕ) → b ≡ 10 → lines_length (suc n) (b ∷ text) ≡ suc (lines_length n text)
unfolding lines_length
line_ends n b text is = subst (λ (c : ℕ). lines_length (suc n) (c ∷ text) ≡ suc (lines_length n text)) (sym is) refl

line_goes_on : (n b : ℕ) (text : List ℕ) → (b == 10) ≡ false → lines_length (suc n) (b ∷ text) ≡ suc (lines_length (suc n) text)
unfolding lines_length
line_goes_on n b text isnt = ap (λ (c : Bool). suc (lines_length (if c then n else suc n) text)) isnt

module _ (text : List ℕ) (number index line : ℕ) where
  from_here : index < length text → drop index text ≡ get_or text index 0 ∷ drop (index + 1) text
  from_here less = drop_more text index 0 less

  past_end : index < length text → line < number → get_or text index 0 ≡ 10 → IsAtLine text number index line
      → IsAtLine text number (index + 1) (line + 1)
  past_end less before ends at =
      let next : number - line ≡ suc (number - (line + 1)) = omega (arith, before) in
      let here : lines_length (number - line) (drop index text) ≡ suc (lines_length (number - (line + 1)) (drop (index + 1) text)) =
      ap (λ (n : ℕ). lines_length n (drop index text)) next
      ∙ (ap (λ (rest : List ℕ). lines_length (suc (number - (line + 1))) rest) (from_here less)
      ∙ line_ends (number - (line + 1)) (get_or text index 0) (drop (index + 1) text) ends) in
      let so_far = at.rest in
      let most = at.most in
      record { first = omega arith; most = omega (arith, most); rest = omega (arith, so_far, here) }

  past_byte : index < length text → line < number → (get_or text index 0 == 10) ≡ false → IsAtLine text number index line
      → IsAtLine text number (index + 1) line
  past_byte less before goes_on at =
      let next : number - line ≡ suc (number - line - 1) = omega (arith, before) in
      let here : lines_length (number - line) (drop index text) ≡ suc (lines_length (suc (number - line - 1)) (drop (index + 1) text)) =
      ap (λ (n : ℕ). lines_length n (drop index text)) next
      ∙ (ap (λ (rest : List ℕ). lines_length (suc (number - line - 1)) rest) (from_here less)
      ∙ line_goes_on (number - line - 1) (get_or text index 0) (drop (index + 1) text) goes_on) in
      let same : lines_length (number - line) (drop (index + 1) text) ≡ lines_length (suc (number - line - 1)) (drop (index + 1) text) =
      ap (λ (n : ℕ). lines_length n (drop (index + 1) text)) next in
      let so_far = at.rest in
      let most = at.most in
      record { first = at.first; most = omega (arith, most); rest = omega (arith, so_far, here, same) }

  -- After the byte at the index.
  pub step_past : (behind : ℕ) → index < length text → line < number → behind ≡ (if get_or text index 0 == 10 then line + 1 else line)
      → IsAtLine text number index line → IsAtLine text number (index + 1) behind
  step_past behind less before is at =
      elim (cases_Bool (get_or text index 0 == 10)) [
        | inl ends ↦
            let so : behind ≡ line + 1 = is ∙ ap (λ (b : Bool). if b then line + 1 else line) ends in
            subst (λ (n : ℕ). IsAtLine text number (index + 1) n) (sym so) (past_end less before (eqb-true (get_or text index 0) 10 ends) at)
        | inr goes_on ↦
            let so : behind ≡ line = is ∙ ap (λ (b : Bool). if b then line + 1 else line) goes_on in
            subst (λ (n : ℕ). IsAtLine text number (index + 1) n) (sym so) (past_byte less before goes_on at)
      ]

-- The line begins at the index.
pub found_here : (text : List ℕ) (number index line : ℕ) → number ≤ line → IsAtLine text number index line
    → index ≡ lines_length (number - 1) text
found_here text number index line reached at =
    let none : number - line ≡ 0 = omega (arith, reached) in
    let nothing : lines_length (number - line) (drop index text) ≡ 0 =
    ap (λ (n : ℕ). lines_length n (drop index text)) none ∙ no_lines (drop index text) in
    let so_far = at.rest in
    omega (arith, so_far, nothing)

-- The text has no such line.
pub found_none : (text : List ℕ) (number index line : ℕ) → index ≡ length text → IsAtLine text number index line
    → length text ≡ lines_length (number - 1) text
found_none text number index line all at =
    let least : length text ≤ index = omega (arith, all) in
    let nothing : lines_length (number - line) (drop index text) ≡ 0 =
    ap (λ (rest : List ℕ). lines_length (number - line) rest) (drop_all index text least) ∙ no_text (number - line) in
    let so_far = at.rest in
    omega (arith, so_far, nothing, all)

-- ---- the end of the last line.

pub ended_so : (text : List ℕ) → is_ended text ≡ true → ended_text text ≡ text
ended_so text is = ap (λ (ended : Bool). if ended then text else text ++ 10 ∷ []) is

pub ended_now : (text : List ℕ) → is_ended text ≡ false → ended_text text ≡ text ++ 10 ∷ []
ended_now text isnt = ap (λ (ended : Bool). if ended then text else text ++ 10 ∷ []) isnt
