-- The printed text, one line of a script after another.
use Rattle.std.proofs.Common.{◌≡◌, ℕ, zero, suc, ◌+◌, ◌<◌, add-one, slice_get, Option, Some, None, take, drop, get_or, length, ◌++◌, List, [], ◌∷◌, inl}
use Rattle.std.proofs.Common.{inr, Result, Ok, Err, refl, sym, ap, subst, ◌∙◌, append-nil, append_assoc}
use Rattle.std.specs.Prelude.{IfOk, IfErr, IsOk, ◌⊎◌, Bool, true}
use Rattle.ring_base.specs.Group.{Group}
use Rattle.ring_base.proofs.Rows.{drop-next}
use Rattle.std.specs.Io.KnownBytes.{Appends}
use Rattle.std.proofs.KnownBytes.{Appends-trans}
use Rattle.std.proofs.lemmas.List.{take-append-drop}
use Rattle.ring_object.specs.Operations.{Sequential}
use Rattle.ring_script.specs.declared.line.ScriptLine.{ScriptLine}
use Rattle.ring_script.specs.declared.line.ScriptLine.TheVariants.{Call, Deliver, Timeout, Noise, Stop, Cut, Heal, Pump, Show}
use Rattle.ring_script.specs.declared.scripts.NumberedLine.{NumberedLine}
use Rattle.ring_script.specs.declared.scripts.Script.{Script}
use Rattle.ring_script.specs.Operations.{OperationForm}
use Rattle.ring_script.specs.Scripts.{IsAllOf, IsScriptOfInputBy}
use Rattle.ring_failure.specs.declared.failure.Failure.{Failure}
use Rattle.ring_failure.specs.declared.failure.Failure.TheVariants.{Refused, BadFrame, BadScript, Output}
use Rattle.ring_world.specs.WorldView.{WorldView}
use Rattle.ring_world.specs.Rules.{Told}
use Rattle.ring_failure.specs.Texts.{line_of}
use Rattle.ring_console.specs.OutputLines.{told_text, one_text}
use Rattle.ring_console.specs.Running.{RunView, HasPrinted, UnlessOutputFailed, IsLineDone, IsLineInterrupted, AreLinesDone, AreLinesInterrupted, IsTextOf, IsCutTextOf, IsBrokenOff, IsVerdict, run_opening, legal_line, text_of}

-- One property of the text implies another.
pub printed_as : (old new : Option (List ℕ)) (P Q : List ℕ → Type 0) → ((text : List ℕ) → P text → Q text) → HasPrinted old new P → HasPrinted old new Q
printed_as old new P Q f p = record { text = p.text; appended = p.appended; holds = f p.text p.holds }

-- One text was printed after the other.
pub printed_then : (old mid new : Option (List ℕ)) (text : List ℕ) (P R : List ℕ → Type 0)
    → ((a : List ℕ) → P a → R (a ++ text)) → HasPrinted old mid P → Appends mid new text → HasPrinted old new R
printed_then old mid new text P R f p q = record {
  text = p.text ++ text;
  appended = Appends-trans old mid new p.text text p.appended q;
  holds = f p.text p.holds;
}

module _ {O A : Type 0} (object : Sequential O) where
  -- A line other than `show` prints the new reports.
  pub told_alone : (line : ScriptLine A) (old new : WorldView A) → (line ≡ Show → ⊥) → text_of object line old new ≡ told_text (drop (length old.told) new.told)
  told_alone (Call node call) old new other = refl
  told_alone (Deliver node frame) old new other = refl
  told_alone (Timeout node kind) old new other = refl
  told_alone (Noise node bytes) old new other = refl
  told_alone (Stop node) old new other = refl
  told_alone (Cut groups) old new other = refl
  told_alone Heal old new other = refl
  told_alone (Pump turns) old new other = refl
  told_alone Show old new other = absurd (other refl)

  -- One more line of the script.
  pub AreLinesDone-snoc : (ls : List (NumberedLine A)) (l : NumberedLine A) (old mid new : RunView A) (a : List ℕ) → AreLinesDone object ls old mid a → IsLineDone object l.line mid new
      → AreLinesDone object (ls ++ l ∷ []) old new (a ++ text_of object l.line mid.world_view new.world_view)
  AreLinesDone-snoc [] l old mid new a h does = (
    new,
    [],
    (
      subst (λ (s : RunView A). IsLineDone object l.line s new) h.0 does,
      (refl, refl),
      ap (λ t. t ++ text_of object l.line mid.world_view new.world_view) h.1
          ∙ (ap (λ (s : RunView A). text_of object l.line s.world_view new.world_view) h.0
          ∙ sym (append-nil (text_of object l.line old.world_view new.world_view))),
    ),
  )
  AreLinesDone-snoc (x ∷ ls) l old mid new a h does = (
    h.0,
    h.1 ++ text_of object l.line mid.world_view new.world_view,
    (
      h.2.0,
      AreLinesDone-snoc ls l h.0 mid new h.1 h.2.1 does,
      ap (λ t. t ++ text_of object l.line mid.world_view new.world_view) h.2.2
          ∙ append_assoc (text_of object x.line old.world_view h.0.world_view) h.1 (text_of object l.line mid.world_view new.world_view),
    ),
  )

  -- Some lines are carried out, and the next one fails.
  breaks_behind : (done : List (NumberedLine A)) (line : NumberedLine A) (others : List (NumberedLine A))
      (old mid new : RunView A) (a : List ℕ) → AreLinesDone object done old mid a → IsLineInterrupted object line.line mid new
      → AreLinesInterrupted object (done ++ line ∷ others) old new (a ++ text_of object line.line mid.world_view new.world_view)
  breaks_behind [] line others old mid new a h breaks =
      inl (
        subst (λ (s : RunView A). IsLineInterrupted object line.line s new) h.0 breaks,
        ap (λ t. t ++ text_of object line.line mid.world_view new.world_view) h.1
            ∙ ap (λ (s : RunView A). text_of object line.line s.world_view new.world_view) h.0,
      )
  breaks_behind (x ∷ ls) line others old mid new a h breaks =
      inr (
        h.0,
        h.1 ++ text_of object line.line mid.world_view new.world_view,
        (
          h.2.0,
          breaks_behind ls line others h.0 mid new h.1 h.2.1 breaks,
          ap (λ t. t ++ text_of object line.line mid.world_view new.world_view) h.2.2
              ∙ append_assoc (text_of object x.line old.world_view h.0.world_view) h.1
              (text_of object line.line mid.world_view new.world_view),
        ),
      )

  -- The line after these fails.
  pub broken_run : (lines done : List (NumberedLine A)) (line : NumberedLine A) (old mid new : RunView A) (a : List ℕ)
      → done ≡ take (length done) lines → length done < length lines → line ≡ get_or lines (length done) line
      → AreLinesDone object done old mid a → IsLineInterrupted object line.line mid new → AreLinesInterrupted object lines old new (a ++ text_of object line.line mid.world_view new.world_view)
  broken_run lines done line old mid new a first within at h breaks =
      let whole : lines ≡ done ++ line ∷ drop (length done + 1) lines =
      sym (ap (λ (ls : List (NumberedLine A)). ls ++ line ∷ drop (length done + 1) lines) first
      ∙ (ap (λ (ls : List (NumberedLine A)). take (length done) lines ++ ls)
      (sym (drop-next lines (length done) line within at)) ∙ take-append-drop (length done) lines)) in
      subst (λ (ls : List (NumberedLine A)). AreLinesInterrupted object ls old new
      (a ++ text_of object line.line mid.world_view new.world_view)) (sym whole)
      (breaks_behind done line (drop (length done + 1) lines) old mid new a h breaks)

-- ---- the reports.

one_told : {A : Type 0} (told : List (Told A)) (k : ℕ) (x : Told A) → slice_get told k ≡ Some x
    → told_text (take k told) ++ line_of (one_text x) ≡ told_text (take (suc k) told)
one_told [] k x e = absurd cc
one_told (y ∷ ys) zero x e = let same : y ≡ x = cc in ap (λ z. line_of (one_text z)) (sym same) ∙ sym (append-nil (line_of (one_text y)))
one_told (y ∷ ys) (suc k) x e = append_assoc (line_of (one_text y)) (told_text (take k ys)) (line_of (one_text x))
    ∙ ap (λ t. line_of (one_text y) ++ t) (one_told ys k x e)

-- One more report.
pub told_more : {A : Type 0} (old mid new : Option (List ℕ)) (told : List (Told A)) (k : ℕ) (x : Told A)
    → slice_get told k ≡ Some x → Appends old mid (told_text (take k told)) → Appends mid new (line_of (one_text x))
    → Appends old new (told_text (take (k + 1) told))
told_more old mid new told k x e first then =
    let all = Appends-trans old mid new (told_text (take k told)) (line_of (one_text x)) first then in
    subst (λ (n : ℕ). Appends old new (told_text (take n told))) (sym (add-one k)) (subst (λ (t : List ℕ). Appends old new t) (one_told told k x e) all)

-- ---- where it is not the output that failed.

pub unless_map : {T : Type 0} (r : Result T Failure) (P Q : Type 0) → (P → Q) → UnlessOutputFailed r P → UnlessOutputFailed r Q
unless_map (Ok x) P Q f h = f h
unless_map (Err (Refused fault)) P Q f h = f h
unless_map (Err (BadFrame byte)) P Q f h = f h
unless_map (Err (BadScript line)) P Q f h = f h
unless_map (Err Output) P Q f h = tt

pub unless_both : {T : Type 0} (r : Result T Failure) (P Q : Type 0) → UnlessOutputFailed r P → UnlessOutputFailed r Q → UnlessOutputFailed r (P × Q)
unless_both (Ok x) P Q h k = (h, k)
unless_both (Err (Refused fault)) P Q h k = (h, k)
unless_both (Err (BadFrame byte)) P Q h k = (h, k)
unless_both (Err (BadScript line)) P Q h k = (h, k)
unless_both (Err Output) P Q h k = tt

-- A fact that holds if the result is true.
pub at_true : {E : Type 0} (r : Result Bool E) (P : Bool → Type 0) → IfOk r P → r ≡ Ok true → P true
at_true (Ok b) P h e = let same : b ≡ true = cc in subst P same h
at_true (Err x) P h e = absurd cc

-- Nothing is reported of a run that was printed, or whose output failed, or whose text did not reach the output;
-- otherwise its text breaks off.
pub run_told : {T : Type 0} (done : Result T Failure) (first mid old new : Option (List ℕ)) (Untold Emptied : Type 0) (Holds : List ℕ → Type 0)
    → (done ≡ Err Output → Untold) → (IsOk done → Untold) → Untold ⊎ Emptied → IfErr done (λ failure. (failure ≡ Output) ⊎ HasPrinted first mid Holds)
    → ((text : List ℕ) → Emptied → Appends first mid text → Appends old new text) → Untold ⊎ HasPrinted old new Holds
run_told (Ok x) first mid old new Untold Emptied Holds output well stands cut moved = inl (well refl)
run_told (Err failure) first mid old new Untold Emptied Holds output well (inl untold) cut moved = inl untold
run_told (Err failure) first mid old new Untold Emptied Holds output well (inr emptied) (inl failed) moved = inl (output (ap Err failed))
run_told (Err failure) first mid old new Untold Emptied Holds output well (inr emptied) (inr printed) moved =
    inr (record { text = printed.text; appended = moved printed.text emptied printed.appended; holds = printed.holds })

-- The text of a run, and then that of the verdict.
pub whole_text : {O A : Type 0} (object : Sequential O) (group : Group) (is_checked : Bool)
    (lines : List (NumberedLine A)) (r : Result Bool Failure) (old mid new : Option (List ℕ)) (opening ran : RunView A)
    → opening ≡ run_opening group → HasPrinted old mid (λ text. AreLinesDone object lines opening ran text)
    → IfOk r (λ is_legal. Appends mid new (legal_line is_checked is_legal))
    → IfOk r (λ is_legal. IsVerdict object is_checked is_legal ran.world_view)
    → IfOk r (λ is_legal. HasPrinted old new (IsTextOf object group is_checked lines is_legal))
whole_text object group is_checked lines (Err failure) old mid new opening ran first p q legal = tt
whole_text object group is_checked lines (Ok is_legal) old mid new opening ran first p q legal = record {
  text = p.text ++ legal_line is_checked is_legal;
  appended = Appends-trans old mid new p.text (legal_line is_checked is_legal) p.appended q;
  holds = record {
    ran = ran;
    told = p.text;
    runs = subst (λ (r : RunView _). AreLinesDone object lines r ran p.text)
        first p.holds;
    legal = legal;
    whole = refl;
  };
}

-- ---- where a run is cut.

-- Nothing more was printed.
appends_kept : (old mid new : Option (List ℕ)) (text : List ℕ) → new ≡ mid → Appends old mid text → Appends old new text
appends_kept old mid new text same printed = subst (λ (o : Option (List ℕ)). Appends old o text) (sym same) printed

appends_nothing : (out : Option (List ℕ)) → Appends out out []
appends_nothing None = tt
appends_nothing (Some xs) = sym (append-nil xs)

module _ {O A : Type 0} (object : Sequential O) (group : Group) (is_checked : Bool) (lines : List (NumberedLine A)) where
  -- Nothing was run.
  pub cut_before : (out : Option (List ℕ)) → HasPrinted out out (IsCutTextOf object group is_checked lines)
  cut_before out = record { text = []; appended = appends_nothing out; holds = record { ran = run_opening group; cut = inl refl } }

  interrupted : (old new : Option (List ℕ)) (opening ran : RunView A) → opening ≡ run_opening group
      → HasPrinted old new (λ text. AreLinesInterrupted object lines opening ran text) → HasPrinted old new (IsCutTextOf object group is_checked lines)
  interrupted old new opening ran first printed = record {
    text = printed.text;
    appended = printed.appended;
    holds = record {
      ran = ran;
      cut = inr (inl (subst (λ (r : RunView A). AreLinesInterrupted object lines r ran printed.text) first printed.holds));
    };
  }

  -- A line failed, or the output did.
  pub cut_in_line : (failure : Failure) (old new : Option (List ℕ)) (opening ran : RunView A) → opening ≡ run_opening group
      → UnlessOutputFailed {T = Unit {0}} (Err failure) (HasPrinted old new (λ text. AreLinesInterrupted object lines opening ran text))
      → (failure ≡ Output) ⊎ HasPrinted old new (IsCutTextOf object group is_checked lines)
  cut_in_line Output old new opening ran first ended = inl refl
  cut_in_line (Refused fault) old new opening ran first ended = inr (interrupted old new opening ran first ended)
  cut_in_line (BadFrame byte) old new opening ran first ended = inr (interrupted old new opening ran first ended)
  cut_in_line (BadScript line) old new opening ran first ended = inr (interrupted old new opening ran first ended)

  -- The check failed after all lines, or the output did.
  pub cut_in_check : (r : Result Bool Failure) (old mid new : Option (List ℕ)) (opening ran : RunView A) → opening ≡ run_opening group
      → HasPrinted old mid (λ text. AreLinesDone object lines opening ran text)
      → IfErr r (λ (failure : Failure). (failure ≡ Output) ⊎ ((is_checked ≡ true) × (new ≡ mid)))
      → IfErr r (λ (failure : Failure). (failure ≡ Output) ⊎ HasPrinted old new (IsCutTextOf object group is_checked lines))
  cut_in_check (Ok x) old mid new opening ran first printed why = tt
  cut_in_check (Err failure) old mid new opening ran first printed (inl output) = inl output
  cut_in_check (Err failure) old mid new opening ran first printed (inr (checked, same)) =
      inr (record {
        text = printed.text;
        appended = appends_kept old mid new printed.text same printed.appended;
        holds = record {
          ran = ran;
          cut = inr (inr (checked, subst (λ (r : RunView A). AreLinesDone object lines r ran printed.text) first printed.holds));
        };
      })

-- If the run of a script that was read breaks off, so does what is printed of the input.
pub broken_off : {O A : Type 0} (Untold Unchanged : Type 0) (object : Sequential O) (forms : List OperationForm) (is_checked : Bool)
    (input old new : Option (List ℕ)) (script : Script A) (bytes : List ℕ) → IsAllOf input bytes → IsScriptOfInputBy forms (Ok script) bytes
    → Untold ⊎ HasPrinted old new (IsCutTextOf object script.nodes is_checked script.lines.items)
    → Untold ⊎ (Unchanged ⊎ IsBrokenOff object A forms is_checked input old new)
broken_off Untold Unchanged object forms is_checked input old new script bytes all is_script (inl untold) = inl untold
broken_off Untold Unchanged object forms is_checked input old new script bytes all is_script (inr printed) =
    inr (inr (record { script = script; bytes = bytes; all = all; is_script = is_script; printed = printed }))
