-- A script's text with the lines of an injection put in.
use Rattle.std.proofs.Common.{◌≡◌, ℕ, ◌+◌, ◌-◌, List, [], ◌∷◌, ◌++◌, length, take, drop, Option, None, Some, Result, Ok, Err, OnOk, sym, subst, ◌∙◌, append_assoc}
use Rattle.std.specs.Prelude.{codes}
use Rattle.std.specs.Fmt.{decimal}
use Rattle.std.specs.Io.KnownBytes.{Appends}
use Rattle.std.proofs.KnownBytes.{Appends-trans}
use Rattle.std.proofs.lemmas.List.{take_rest}
use Rattle.ring_script.specs.declared.scripts.NumberedLine.{NumberedLine}
use Rattle.ring_failure.specs.Texts.{line_of}
use Rattle.ring_sweep.specs.declared.injection.Injection.{Injection}
use Rattle.ring_sweep.specs.declared.variant_script.InjectedLines.{InjectedLines}
use Rattle.ring_sweep.specs.VariantTexts.{lines_length, first_lines, lines_after, ended_text, pump_line, injected_lines, split_turns, with_injected, text_with_injection}

-- A fact that a fact at `Ok` implies.
pub more_at_ok : {T E : Type 0} (r : Result T E) (P Q : Type 0) → (P → Q) → OnOk r P → OnOk r Q
more_at_ok (Ok x) P Q f p = f p
more_at_ok (Err e) P Q f p = tt

-- A text, and another after it.
pub then_text : {T E : Type 0} (r : Result T E) (old mid new : Option (List ℕ)) (first last : List ℕ) → Appends old mid first
    → OnOk r (Appends mid new last) → OnOk r (Appends old new (first ++ last))
then_text r old mid new first last h more =
    more_at_ok r (Appends mid new last) (Appends old new (first ++ last)) (λ so. Appends-trans old mid new first last h so) more

-- The line of a cut, by its parts.
cut_line : (cut number space others : List ℕ) → cut ++ (number ++ (space ++ (others ++ 10 ∷ []))) ≡ line_of (cut ++ number ++ space ++ others)
cut_line cut number space others =
    sym (append_assoc (cut ++ number ++ space) others (10 ∷ []) ∙ (append_assoc (cut ++ number) space (others ++ 10 ∷ [])
    ∙ append_assoc cut number (space ++ (others ++ 10 ∷ []))))

pub cut_printed : {T E : Type 0} (r : Result T E) (old named spaced parted listed new : Option (List ℕ)) (node : ℕ) (others : List ℕ)
    → Appends old named (codes "cut ") → Appends named spaced (decimal node) → Appends spaced parted (codes " ") → Appends parted listed others
    → OnOk r (Appends listed new (10 ∷ [])) → OnOk r (Appends old new (line_of (codes "cut " ++ decimal node ++ codes " " ++ others)))
cut_printed r old named spaced parted listed new node others cut number space list end =
    let rest : List ℕ = codes " " ++ (others ++ 10 ∷ []) in
    subst (λ (text : List ℕ). OnOk r (Appends old new text)) (cut_line (codes "cut ") (decimal node) (codes " ") others)
    (then_text r old named new (codes "cut ") (decimal node ++ rest) cut
    (then_text r named spaced new (decimal node) rest number
    (then_text r spaced parted new (codes " ") (others ++ 10 ∷ []) space
    (then_text r parted listed new others (10 ∷ []) list end))))

-- A split pump, by its parts.
four_parts : (first injected second rest : List ℕ) → first ++ (injected ++ (second ++ rest)) ≡ first ++ injected ++ second ++ rest
four_parts first injected second rest =
    sym (append_assoc (first ++ injected) second rest ∙ append_assoc first injected (second ++ rest))

pub pump_split : {T E : Type 0} (r : Result T E) (old taken_out put left_out new : Option (List ℕ)) (text injected : List ℕ) (turns taken left begin : ℕ)
    → left ≡ turns - taken → begin ≡ lines_length 1 text → Appends old taken_out (pump_line taken) → Appends taken_out put injected
    → Appends put left_out (pump_line left) → OnOk r (Appends left_out new (ended_text (take (length text - begin) (drop begin text))))
    → OnOk r (Appends old new (with_injected (Some turns) taken injected text))
pump_split r old taken_out put left_out new text injected turns taken left begin left_is begin_is first lines second rest =
    let behind : OnOk r (Appends left_out new (ended_text (lines_after 1 text))) =
    subst (λ (n : ℕ). OnOk r (Appends left_out new (ended_text (drop n text)))) begin_is
    (subst (λ (xs : List ℕ). OnOk r (Appends left_out new (ended_text xs))) (take_rest text begin) rest) in
    let other : Appends put left_out (pump_line (turns - taken)) = subst (λ (n : ℕ). Appends put left_out (pump_line n)) left_is second in
    let last : List ℕ = ended_text (lines_after 1 text) in
    subst (λ (printed : List ℕ). OnOk r (Appends old new printed)) (four_parts (pump_line taken) injected (pump_line (turns - taken)) last)
    (then_text r old taken_out new (pump_line taken) (injected ++ (pump_line (turns - taken) ++ last)) first
    (then_text r taken_out put new injected (pump_line (turns - taken) ++ last) lines
    (then_text r put left_out new (pump_line (turns - taken)) last other behind)))

-- The text before a line, and then the injected lines with the line and all after it.
pub around_line : {T E : Type 0} (r : Result T E) (old mid new : Option (List ℕ)) (text injected : List ℕ) (number begin taken : ℕ) (asked found next : Option ℕ)
    → begin ≡ lines_length (number - 1) text → found ≡ asked → found ≡ next → Appends old mid (take begin text)
    → OnOk r (Appends mid new (with_injected next taken injected (take (length text - begin) (drop begin text))))
    → OnOk r (Appends old new (first_lines (number - 1) text ++ with_injected asked taken injected (lines_after (number - 1) text)))
around_line r old mid new text injected number begin taken asked found next begin_is asked_is next_is first rest =
    let behind : OnOk r (Appends mid new (with_injected asked taken injected (drop begin text))) =
    subst (λ (turns : Option ℕ). OnOk r (Appends mid new (with_injected turns taken injected (drop begin text)))) (sym next_is ∙ asked_is)
    (subst (λ (xs : List ℕ). OnOk r (Appends mid new (with_injected next taken injected xs))) (take_rest text begin) rest) in
    subst (λ (n : ℕ). OnOk r (Appends old new (take n text ++ with_injected asked taken injected (drop n text)))) begin_is
    (then_text r old mid new (take begin text) (with_injected asked taken injected (drop begin text)) first behind)

module _ {A T E : Type 0} (r : Result T E) (old new : Option (List ℕ)) (text : List ℕ) (counted count : ℕ) (u : Injection) (added_lines : InjectedLines) where
  -- The position is at a line.
  pub at_line : (found : Option (NumberedLine A)) (next : NumberedLine A) (taken : ℕ) → Some next ≡ found
      → added_lines ≡ record { injection = u; count = counted; events = u.before + 1 } → counted ≡ count
      → OnOk r (Appends old new (first_lines (next.number - 1) text ++ with_injected (split_turns next.line taken) taken
      (injected_lines added_lines.count added_lines.events added_lines.injection) (lines_after (next.number - 1) text)))
      → OnOk r (Appends old new (text_with_injection text found taken count u))
  at_line found next taken found_is put_in_is counted_is printed =
      let around : List ℕ → List ℕ = λ lines.
      first_lines (next.number - 1) text ++ with_injected (split_turns next.line taken) taken lines (lines_after (next.number - 1) text) in
      subst (λ (f : Option (NumberedLine A)). OnOk r (Appends old new (text_with_injection text f taken count u))) found_is
      (subst (λ (n : ℕ). OnOk r (Appends old new (around (injected_lines n (u.before + 1) u)))) counted_is
      (subst (λ (i : InjectedLines). OnOk r (Appends old new (around (injected_lines i.count i.events i.injection)))) put_in_is printed))

  -- The position is at the end.
  pub at_end : (found : Option (NumberedLine A)) (taken : ℕ) → None ≡ found
      → added_lines ≡ record { injection = u; count = counted; events = u.before } → counted ≡ count
      → OnOk r (Appends old new (ended_text text ++ injected_lines added_lines.count added_lines.events added_lines.injection))
      → OnOk r (Appends old new (text_with_injection text found taken count u))
  at_end found taken found_is put_in_is counted_is printed =
      subst (λ (f : Option (NumberedLine A)). OnOk r (Appends old new (text_with_injection text f taken count u))) found_is
      (subst (λ (n : ℕ). OnOk r (Appends old new (ended_text text ++ injected_lines n u.before u))) counted_is
      (subst (λ (i : InjectedLines). OnOk r (Appends old new (ended_text text ++ injected_lines i.count i.events i.injection))) put_in_is printed))
