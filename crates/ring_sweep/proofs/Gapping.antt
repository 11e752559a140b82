-- The run of a script from position to position among its lines, up to one of its events.
use Rattle.std.proofs.Common.{◌≡◌, ℕ, zero, suc, ◌+◌, ◌-◌, ◌==◌, ◌<◌, ◌≤◌, ◌&&◌, take, drop, slice_get, get_or, length, Bool, true, false, List, [], ◌∷◌, ◌++◌}
use Rattle.std.proofs.Common.{Option, Some, None, Result, Ok, Err, OnOk, refl, sym, ap, subst, ◌∙◌, arith, append-nil, append_assoc, length-drop}
use Rattle.std.proofs.lemmas.Bool.{eqb-true, eqb-false}
use Rattle.std.proofs.lemmas.List.{replicate-append-replicate, take_all}
use Rattle.std.proofs.lemmas.Option.{slice_get_read}
use Rattle.std.specs.Prelude.{replicate}
use Rattle.ring_base.specs.Group.{Group}
use Rattle.ring_base.proofs.ListPlaces.{none-length}
use Rattle.ring_object.specs.Operations.{Sequential}
use Rattle.ring_script.specs.declared.line.ScriptLine.{ScriptLine}
use Rattle.ring_script.specs.declared.line.ScriptLine.TheVariants.{Call, Deliver, Timeout, Noise, Stop, Cut, Heal, Pump, Show}
use Rattle.ring_script.specs.declared.scripts.NumberedLine.{NumberedLine}
use Rattle.ring_console.specs.Running.{RunView, run_opening, IsLineDone}
use Rattle.ring_sweep.specs.declared.script_position.ScriptPosition.{ScriptPosition}
use Rattle.ring_sweep.specs.declared.injection.Injection.{Injection}
use Rattle.ring_sweep.specs.Variants.{turn, steps_in, steps_of, is_event, bit, line_of_injection, AreStepsDone, IsDue, IsVariant}
use Rattle.ring_sweep.specs.ScriptPositions.{IsWithin, left_in, IsPlace, HasStepLeft, IsBeforeStep, done_of, left_of, IsNext, IsUntil, IsStepUntil, HasReachedEvent, IsScriptPosition}
use Rattle.ring_sweep.proofs.Walking.{passes_append, turns_more, turns_idle, lines_more}

-- ---- whether a step is the event after `before` others.

both_true : (e d : Bool) → (e && d) ≡ true → (e ≡ true) × (d ≡ true)
both_true true true is = (refl, refl)
both_true true false is = absurd (cc (is))
both_true false d is = absurd (cc (is))

is_now : {A : Type 0} (l : ScriptLine A) (run : RunView A) (done before : ℕ) → (is_event run l && done == before) ≡ true → (is_event run l ≡ true) × (done ≡ before)
is_now l run done before is =
    let both = both_true (is_event run l) (done == before) is in
    (both.0, eqb-true done before both.1)

-- After a step that is not that event, at most as many events are run as come before it.
room : (e d : Bool) (done before : ℕ) → (done == before) ≡ d → (e && d) ≡ false → done ≤ before → done + bit e ≤ before
room true true done before is not le = absurd (cc (not))
room true false done before is not le = let isolation = eqb-false done before is in omega (arith, isolation, le)
room false d done before is not le = omega (arith, le)

-- ---- positions.

module _ {A : Type 0} where
  turns_parted : (turns k : ℕ) → k ≤ turns → replicate turns (turn {A = A}) ≡ replicate k turn ++ replicate (turns - k) turn
  turns_parted turns k most =
      ap (λ (n : ℕ). replicate n (turn {A = A})) (omega (arith, most)) ∙ sym (replicate-append-replicate k (turns - k) (turn {A = A}))

  -- After no turn, all of a line is left.
  pub left_whole : (l : ScriptLine A) → left_in l 0 ≡ steps_in l
  left_whole (Pump turns) = ap (λ (n : ℕ). replicate n (turn {A = A})) (omega arith)
  left_whole (Call node call) = refl
  left_whole (Deliver node frame) = refl
  left_whole (Timeout node kind) = refl
  left_whole (Noise node bytes) = refl
  left_whole (Stop node) = refl
  left_whole (Cut groups) = refl
  left_whole Heal = refl
  left_whole Show = refl

  -- None of a line was done.
  none_taken : (l : ScriptLine A) (taken : ℕ) → taken ≡ 0 → steps_in l ≡ replicate taken turn ++ steps_in l
  none_taken l taken none = ap (λ (n : ℕ). replicate n (turn {A = A}) ++ steps_in l) (sym none)

  line_parted : (l : ScriptLine A) (taken : ℕ) → IsWithin l taken → steps_in l ≡ replicate taken turn ++ left_in l taken
  line_parted (Pump turns) taken within = turns_parted turns taken within
  line_parted (Call node call) taken within = none_taken (Call node call) taken within
  line_parted (Deliver node frame) taken within = none_taken (Deliver node frame) taken within
  line_parted (Timeout node kind) taken within = none_taken (Timeout node kind) taken within
  line_parted (Noise node bytes) taken within = none_taken (Noise node bytes) taken within
  line_parted (Stop node) taken within = none_taken (Stop node) taken within
  line_parted (Cut groups) taken within = none_taken (Cut groups) taken within
  line_parted Heal taken within = none_taken Heal taken within
  line_parted Show taken within = none_taken Show taken within

  none_within : (l : ScriptLine A) → IsWithin l 0
  none_within (Pump turns) = omega arith
  none_within (Call node call) = refl
  none_within (Deliver node frame) = refl
  none_within (Timeout node kind) = refl
  none_within (Noise node bytes) = refl
  none_within (Stop node) = refl
  none_within (Cut groups) = refl
  none_within Heal = refl
  none_within Show = refl

  begun : (lines : List (NumberedLine A)) (k : ℕ) → IsPlace lines k 0
  begun [] k = refl
  begun (l ∷ ls) zero = none_within l.line
  begun (l ∷ ls) (suc k) = begun ls k

  -- The turns of the line that is next.
  pub place_within : (lines : List (NumberedLine A)) (k taken : ℕ) (l : NumberedLine A) → slice_get lines k ≡ Some l → IsPlace lines k taken → IsWithin l.line taken
  place_within [] k taken l here place = absurd (cc (here))
  place_within (x ∷ xs) zero taken l here place = let same : x ≡ l = cc in subst (λ (y : NumberedLine A). IsWithin y.line taken) same place
  place_within (x ∷ xs) (suc k) taken l here place = place_within xs k taken l here place

  within_place : (lines : List (NumberedLine A)) (k taken : ℕ) (l : NumberedLine A) → slice_get lines k ≡ Some l → IsWithin l.line taken → IsPlace lines k taken
  within_place [] k taken l here within = absurd (cc (here))
  within_place (x ∷ xs) zero taken l here within = let same : l ≡ x = cc in subst (λ (y : NumberedLine A). IsWithin y.line taken) same within
  within_place (x ∷ xs) (suc k) taken l here within = within_place xs k taken l here within

  -- A step that is next is left.
  some_left : (n before events : ℕ) (t : RunView A) → IsNext (replicate n (turn {A = A})) before events t → 0 < n
  some_left zero before events t next = absurd next
  some_left (suc n) before events t next = omega arith

  has_left : (l : ScriptLine A) (taken before events : ℕ) (t : RunView A) → IsWithin l taken → IsNext (left_in l taken) before events t
      → HasStepLeft l taken
  has_left (Pump turns) taken before events t within next =
      let some = some_left (turns - taken) before events t next in omega (arith, some)
  has_left (Call node call) taken before events t within next = within
  has_left (Deliver node frame) taken before events t within next = within
  has_left (Timeout node kind) taken before events t within next = within
  has_left (Noise node bytes) taken before events t within next = within
  has_left (Stop node) taken before events t within next = within
  has_left (Cut groups) taken before events t within next = within
  has_left Heal taken before events t within next = within
  has_left Show taken before events t within next = within

  left_place : (lines : List (NumberedLine A)) (k taken : ℕ) (l : NumberedLine A) → slice_get lines k ≡ Some l → HasStepLeft l.line taken → IsBeforeStep lines k taken
  left_place [] k taken l here left = absurd (cc (here))
  left_place (x ∷ xs) zero taken l here left = let same : l ≡ x = cc in subst (λ (y : NumberedLine A). HasStepLeft y.line taken) same left
  left_place (x ∷ xs) (suc k) taken l here left = left_place xs k taken l here left

  -- After the last line no turn is taken.
  pub step_behind : (lines : List (NumberedLine A)) (k taken : ℕ) → length lines ≤ k → IsPlace lines k taken → IsBeforeStep lines k taken
  step_behind [] k taken past place = place
  step_behind (x ∷ xs) zero taken past place = absurd (omega (arith, past))
  step_behind (x ∷ xs) (suc k) taken past place = step_behind xs k taken (omega (arith, past)) place

  left_at : (lines : List (NumberedLine A)) (k taken : ℕ) (l : NumberedLine A) → slice_get lines k ≡ Some l
      → left_of lines k taken ≡ left_in l.line taken ++ steps_of (drop (k + 1) lines)
  left_at [] k taken l here = absurd (cc (here))
  left_at (x ∷ xs) zero taken l here =
      let same : x ≡ l = cc in ap (λ (y : NumberedLine A). left_in y.line taken ++ steps_of xs) same
  left_at (x ∷ xs) (suc k) taken l here =
      let next : suc k + 1 ≡ suc (k + 1) = omega arith in
      left_at xs k taken l here ∙ ap (λ (n : ℕ). left_in l.line taken ++ steps_of (drop n (x ∷ xs))) (sym next)

  left_behind : (lines : List (NumberedLine A)) (k taken : ℕ) → length lines ≤ k → left_of lines k taken ≡ []
  left_behind [] k taken past = refl
  left_behind (x ∷ xs) zero taken past = absurd (omega (arith, past))
  left_behind (x ∷ xs) (suc k) taken past = left_behind xs k taken (omega (arith, past))

  -- After the last line, nothing is left.
  pub none_left : (lines : List (NumberedLine A)) (k taken : ℕ) → slice_get lines k ≡ None → left_of lines k taken ≡ []
  none_left lines k taken none = left_behind lines k taken (none-length lines k none)

  -- A position splits the steps.
  parted : (lines : List (NumberedLine A)) (k taken : ℕ) → IsPlace lines k taken → steps_of lines ≡ done_of lines k taken ++ left_of lines k taken
  parted [] zero taken place = ap (λ (n : ℕ). replicate n (turn {A = A}) ++ []) (sym place)
  parted [] (suc k) taken place = ap (λ (n : ℕ). replicate n (turn {A = A}) ++ []) (sym place)
  parted (l ∷ ls) zero taken place =
      ap (λ (xs : List (ScriptLine A)). xs ++ steps_of ls) (line_parted l.line taken place)
      ∙ append_assoc (replicate taken turn) (left_in l.line taken) (steps_of ls)
  parted (l ∷ ls) (suc k) taken place =
      let first = steps_in l.line in
      ap (λ (xs : List (ScriptLine A)). first ++ xs) (parted ls k taken place)
      ∙ (sym (append_assoc first (done_of ls k taken) (left_of ls k taken))
      ∙ ap (λ (xs : List (ScriptLine A)). xs ++ left_of ls k taken) (sym (append_assoc first (steps_of (take k ls)) (replicate taken turn))))

-- ---- a run from position to position.

module _ {O A : Type 0} (object : Sequential O) where
  -- The turns of a pump from this one on were taken, none of them that event.
  abbrev pub AreTurns : ℕ → ℕ → ℕ → ℕ → ℕ → RunView A → RunView A → Type 0
  AreTurns k from before done events old new =
      AreStepsDone object (replicate (k - from) turn) done events old new × (done ≤ before → events ≤ before)

  stays_before : (l : ScriptLine A) (before done events : ℕ) (s t : RunView A) → AreStepsDone object (l ∷ []) done events s t
      → (is_event s l && done == before) ≡ false → done ≤ before → events ≤ before
  stays_before l before done events s t h not le =
      let more = h.1.1.1 in
      let most = room (is_event s l) (done == before) done before refl not le in
      omega (arith, more, most)

  -- A step was taken, or it is that event.
  pub step_taken : (l : ScriptLine A) (before done events : ℕ) (s t : RunView A) → AreStepsDone object (l ∷ []) done events s t
      → (is_event s l && done == before) ≡ false → IsStepUntil object l before None done events s t
  step_taken l before done events s t h not = (h, λ le. stays_before l before done events s t h not le)

  pub step_next : (l : ScriptLine A) (before done : ℕ) (s : RunView A) → (is_event s l && done == before) ≡ true
      → IsStepUntil object l before (Some 0) done done s s
  step_next l before done s is = (refl, refl, refl, is_now l s done before is)

  pub turns_next : (k from before done mid events : ℕ) (s m t : RunView A) → from ≤ k → AreTurns k from before done mid s m
      → AreStepsDone object (turn ∷ []) mid events m t → (is_event m (turn {A = A}) && mid == before) ≡ false
      → AreTurns (k + 1) from before done events s t
  turns_next k from before done mid events s m t least h step not =
      let many : (k - from) + 1 ≡ (k + 1) - from = omega (arith, least) in (
        subst (λ (n : ℕ). AreStepsDone object (replicate n turn) done events s t) many
            (turns_more object (k - from) done mid events s m t h.0 step),
        λ le. stays_before turn before mid events m t step not (h.1 le),
      )

  -- All of them were taken; the remaining ones do nothing.
  pub turns_ended : (turns k from before done events : ℕ) (s t : RunView A) → k ≤ turns → t.open_copies ≡ []
      → AreTurns k from before done events s t → IsUntil object (Pump turns) from before None done events s t
  turns_ended turns k from before done events s t most none h =
      let fewer : k - from ≤ turns - from = omega (arith, most) in
      (turns_idle object (turns - from) (k - from) done events s t fewer none h.0, h.1)

  pub turns_done : (turns k from before done events : ℕ) (s t : RunView A) → k ≡ turns → AreTurns k from before done events s t
      → IsUntil object (Pump turns) from before None done events s t
  turns_done turns k from before done events s t all h = subst (λ (n : ℕ). AreTurns n from before done events s t) all h

  -- That event is the next of them.
  pub is_turn_due : (turns k from before done events : ℕ) (s t : RunView A) → from ≤ k → k < turns → AreTurns k from before done events s t
      → (is_event t (turn {A = A}) && events == before) ≡ true → IsUntil object (Pump turns) from before (Some k) done events s t
  is_turn_due turns k from before done events s t least less h is =
      let many : suc (turns - k - 1) ≡ turns - k = omega (arith, less) in
      let within : k ≤ turns = omega (arith, less) in (
        least,
        within,
        h.0,
        subst (λ (n : ℕ). IsNext (replicate n (turn {A = A})) before events t) many (is_now turn t events before is),
      )

  -- ---- lines.

  -- The rest of a line is done, and then the lines after it.
  pub rest_done : {T E : Type 0} (r : Result T E) (lines rest : List (NumberedLine A)) (k taken begun mid ended : ℕ) (l : NumberedLine A) (s m t : RunView A)
      → slice_get lines k ≡ Some l → rest ≡ take (length lines - (k + 1)) (drop (k + 1) lines) → AreStepsDone object (left_in l.line taken) begun mid s m
      → OnOk r (AreStepsDone object (steps_of rest) mid ended m t) → OnOk r (AreStepsDone object (left_of lines k taken) begun ended s t)
  rest_done (Ok x) lines rest k taken begun mid ended l s m t here is h more =
      let whole : rest ≡ drop (k + 1) lines =
      is ∙ take_all (length lines - (k + 1)) (drop (k + 1) lines) (omega (arith, length-drop (k + 1) lines)) in
      let same : left_in l.line taken ++ steps_of rest ≡ left_of lines k taken =
      ap (λ (xs : List (NumberedLine A)). left_in l.line taken ++ steps_of xs) whole ∙ sym (left_at lines k taken l here) in
      subst (λ (ls : List (ScriptLine A)). AreStepsDone object ls begun ended s t) same
      (passes_append object (left_in l.line taken) (steps_of rest) begun mid ended s m t h more)
  rest_done (Err x) lines rest k taken begun mid ended l s m t here is h more = tt

  pub opened : (group : Group) (lines : List (NumberedLine A)) (k taken events : ℕ) (run : RunView A) → k ≡ 0 → taken ≡ 0 → events ≡ 0
      → run ≡ run_opening group → HasReachedEvent object group lines k taken events run
  opened group lines k taken events run none no_turn no_event opening =
      let here : HasReachedEvent object group lines 0 0 0 (run_opening group) = record { place = begun lines 0; passes = (refl, refl) } in
      subst (λ (n : ℕ). HasReachedEvent object group lines n taken events run) (sym none)
      (subst (λ (n : ℕ). HasReachedEvent object group lines 0 n events run) (sym no_turn)
      (subst (λ (n : ℕ). HasReachedEvent object group lines 0 0 n run) (sym no_event)
      (subst (λ (r : RunView A). HasReachedEvent object group lines 0 0 0 r) (sym opening) here)))

  -- The rest of a line was done.
  come_past : (group : Group) (lines : List (NumberedLine A)) (k taken done events : ℕ) (l : NumberedLine A) (s t : RunView A)
      → slice_get lines k ≡ Some l → HasReachedEvent object group lines k taken done s → AreStepsDone object (left_in l.line taken) done events s t
      → HasReachedEvent object group lines (k + 1) 0 events t
  come_past group lines k taken done events l s t here come more =
      let front = steps_of (take k lines) in
      let same : done_of lines k taken ++ left_in l.line taken ≡ done_of lines (k + 1) 0 =
      append_assoc front (replicate taken turn) (left_in l.line taken)
      ∙ (ap (λ (xs : List (ScriptLine A)). front ++ xs) (sym (line_parted l.line taken (place_within lines k taken l here come.place)))
      ∙ (sym (lines_more object lines k l here) ∙ sym (append-nil (steps_of (take (k + 1) lines))))) in
      record {
        place = begun lines (k + 1);
        passes = subst (λ (xs : List (ScriptLine A)). AreStepsDone object xs 0 events (run_opening group) t) same
            (passes_append object (done_of lines k taken) (left_in l.line taken) 0 done events (run_opening group) s t come.passes more);
      }

  next_due : (others rest : List (ScriptLine A)) (before events : ℕ) (t : RunView A) → IsNext others before events t
      → IsDue object (others ++ rest) events before t
  next_due [] rest before events t next = absurd next
  next_due (x ∷ xs) rest before events t next = (next.1, next.0)

  -- That event comes in a line.
  come_to : (group : Group) (lines : List (NumberedLine A)) (k taken turns before done events : ℕ) (l : NumberedLine A) (s t : RunView A)
      → slice_get lines k ≡ Some l → HasReachedEvent object group lines k taken done s
      → IsUntil object l.line taken before (Some turns) done events s t
      → HasReachedEvent object group lines k turns events t × IsDue object (left_of lines k turns) events before t
  come_to group lines k taken turns before done events l s t here come until =
      let front = steps_of (take k lines) in
      let many : taken + (turns - taken) ≡ turns = let least = until.0 in omega (arith, least) in
      let same : done_of lines k taken ++ replicate (turns - taken) turn ≡ done_of lines k turns =
      append_assoc front (replicate taken turn) (replicate (turns - taken) turn)
      ∙ ap (λ (xs : List (ScriptLine A)). front ++ xs)
      (replicate-append-replicate taken (turns - taken) (turn {A = A}) ∙ ap (λ (n : ℕ). replicate n (turn {A = A})) many) in (
        record {
          place = within_place lines k turns l here until.1;
          passes = subst (λ (xs : List (ScriptLine A)). AreStepsDone object xs 0 events (run_opening group) t) same
              (passes_append object (done_of lines k taken) (replicate (turns - taken) turn) 0 done events (run_opening group) s t come.passes until.2);
        },
        subst (λ (xs : List (ScriptLine A)). IsDue object xs events before t) (sym (left_at lines k turns l here))
            (next_due (left_in l.line turns) (steps_of (drop (k + 1) lines)) before events t until.3),
      )

  -- It doesn't come.
  pub come_behind : (lines : List (NumberedLine A)) (k taken events before : ℕ) (t : RunView A) → length lines ≤ k → events ≤ before
      → IsDue object (left_of lines k taken) events before t
  come_behind lines k taken events before t past most =
      subst (λ (xs : List (ScriptLine A)). IsDue object xs events before t) (sym (left_behind lines k taken past)) most

  -- ---- the same of lines read one after another.

  pub read_line : (lines : List (NumberedLine A)) (k len : ℕ) (l : NumberedLine A) → k < len → len ≡ length lines → l ≡ get_or lines k l → slice_get lines k ≡ Some l
  read_line lines k len l less all is = slice_get_read lines (length lines) k l refl (omega (arith, less, all)) is

  pub line_past : (group : Group) (lines : List (NumberedLine A)) (k taken before done events : ℕ) (l : NumberedLine A) (found : Option ℕ) (s t : RunView A)
      → slice_get lines k ≡ Some l → HasReachedEvent object group lines k taken done s → done ≤ before
      → IsUntil object l.line taken before found done events s t → found ≡ None
      → HasReachedEvent object group lines (k + 1) 0 events t × (events ≤ before)
  line_past group lines k taken before done events l found s t here come most until none =
      let past = subst (λ (f : Option ℕ). IsUntil object l.line taken before f done events s t) none until in
      (come_past group lines k taken done events l s t here come past.0, past.1 most)

  pub line_found : (group : Group) (lines : List (NumberedLine A)) (k taken turns before done events : ℕ) (l : NumberedLine A) (found : Option ℕ) (s t : RunView A)
      → slice_get lines k ≡ Some l → HasReachedEvent object group lines k taken done s
      → IsUntil object l.line taken before found done events s t → found ≡ Some turns
      → HasReachedEvent object group lines k turns events t × IsDue object (left_of lines k turns) events before t
  line_found group lines k taken turns before done events l found s t here come until some =
      come_to group lines k taken turns before done events l s t here come
      (subst (λ (f : Option ℕ). IsUntil object l.line taken before f done events s t) some until)

  pub step_found : (lines : List (NumberedLine A)) (k taken turns before done events : ℕ) (l : NumberedLine A) (found : Option ℕ) (s t : RunView A)
      → slice_get lines k ≡ Some l → IsUntil object l.line taken before found done events s t → found ≡ Some turns → IsBeforeStep lines k turns
  step_found lines k taken turns before done events l found s t here until some =
      let so : IsUntil object l.line taken before (Some turns) done events s t =
      subst (λ (f : Option ℕ). IsUntil object l.line taken before f done events s t) some until in
      left_place lines k turns l here (has_left l.line turns before events t so.1 so.3)

  -- ---- the result there.

  -- At most as many events were run as come before it.
  pub max_before : (others : List (ScriptLine A)) (events before : ℕ) (t : RunView A) → IsDue object others events before t → events ≤ before
  max_before [] events before t due = due
  max_before (l ∷ ls) events before t due = let now = due.0 in omega (arith, now)

  pub is_gap : (group : Group) (lines : List (NumberedLine A)) (before : ℕ) (script_position : ScriptPosition) (t : RunView A)
      → HasReachedEvent object group lines script_position.lines script_position.turns script_position.events t → IsDue object (left_of lines script_position.lines script_position.turns) script_position.events before t
      → IsBeforeStep lines script_position.lines script_position.turns → IsScriptPosition object group lines before script_position
  is_gap group lines before script_position t come due step = record {
    first = done_of lines script_position.lines script_position.turns;
    others = left_of lines script_position.lines script_position.turns;
    whole = parted lines script_position.lines script_position.turns come.place;
    place = refl;
    step = step;
    reached = t;
    passes = come.passes;
    due = due;
  }

  -- The injection there, and then all that follows, is a variant.
  pub is_variant : (group : Group) (lines : List (NumberedLine A)) (u : Injection) (k taken events ended : ℕ) (reached injected new : RunView A)
      → HasReachedEvent object group lines k taken events reached → IsDue object (left_of lines k taken) events u.before reached
      → IsLineDone object (line_of_injection u) reached injected → AreStepsDone object (left_of lines k taken) events ended injected new
      → IsVariant object (steps_of lines) u 0 (run_opening group) new
  is_variant group lines u k taken events ended reached injected new come due injects behind = record {
    first = done_of lines k taken;
    others = left_of lines k taken;
    whole = parted lines k taken come.place;
    events = events;
    reached = reached;
    before = come.passes;
    due = due;
    injected = injected;
    injects = injects;
    ended = ended;
    behind = behind;
  }
