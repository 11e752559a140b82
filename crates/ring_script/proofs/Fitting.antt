-- Each call that a script asks for is within the limits of a call.
use Rattle.std.proofs.Common.{◌≡◌, ℕ, ◌+◌, ◌-◌, ◌^◌, ◌<◌, ◌≤◌, true, List, [], ◌∷◌, length, map, Option, Some, None, Result, Ok, arith, refl}
use Rattle.std.specs.Prelude.{IfSome, IfOk}
use Rattle.std.specs.List.{AllByRecursion}
use Rattle.std.proofs.lemmas.Grind.{common_steps}
use Rattle.std.proofs.lemmas.Result.{IfOk-at_ok}
use Rattle.ring_base.specs.Group.{Group}
use Rattle.ring_script.specs.declared.line.ScriptLine.{ScriptLine}
use Rattle.ring_script.specs.declared.line.ScriptLine.TheVariants as lines
use Rattle.ring_script.specs.declared.scripts.NumberedLine.{NumberedLine}
use Rattle.ring_script.specs.Fits.{IsFit, AreFit}
use Rattle.ring_script.specs.Lines.{LineRequest, Call, Deliver, Timeout, Noise, Stop, Cut, Heal, Pump, Show, request_of}
use Rattle.ring_script.specs.Lines.{call_at, deliver_at, timeout_at, noise_at, stop_at, cut_line_at, pump_at, form_at}
use Rattle.ring_script.specs.Lines.{request_in}
use Rattle.ring_script.specs.Numbers.{word_at, number_at, node_at}
use Rattle.ring_script.specs.Operations.{OperationForm, are_short, operation_at}
use Rattle.ring_script.specs.Reading.{◌>>=◌}
use Rattle.ring_script.specs.Scripts.{unless_skipped, then_request, requests_in, numbered_by}
use Rattle.ring_script.specs.Words.{words_of, whole}
use Rattle.ring_script.proofs.Lengths.{operation_short}

-- The request is within the limits.
abbrev FitsAsked : LineRequest → Type 0
FitsAsked (Call node client number operation) = (client < 2 ^ 32) × (1 ≤ number) × (number < 2 ^ 64) × (length operation ≤ 1024)
FitsAsked (Deliver node frame) = Unit {0}
FitsAsked (Timeout node kind) = Unit {0}
FitsAsked (Noise node bytes) = Unit {0}
FitsAsked (Stop node) = Unit {0}
FitsAsked (Cut groups) = Unit {0}
FitsAsked Heal = Unit {0}
FitsAsked (Pump turns) = Unit {0}
FitsAsked Show = Unit {0}

-- ---- the forms of lines.

client_low : (words : List (List ℕ)) → IfSome (number_at 0 (2 ^ 32 - 1) words) (λ number. number.0 < 2 ^ 32)
client_low words = grind (arith, common_steps)

number_low : (words : List (List ℕ)) → IfSome (number_at 1 (2 ^ 64 - 1) words) (λ number. (1 ≤ number.0) × (number.0 < 2 ^ 64))
number_low words = grind (arith, common_steps)

operation_low : (forms : List OperationForm) (words : List (List ℕ)) → are_short forms ≡ true
    → IfSome (operation_at forms words) (λ operation. length operation.0 ≤ 1024)
operation_low forms words are = at_some (operation_at forms words) refl
  where
    at_some : (o : Option (List ℕ × List (List ℕ))) → operation_at forms words ≡ o → IfSome o (λ operation. length operation.0 ≤ 1024)
    at_some None e = tt
    at_some (Some x) e = operation_short forms words x are e

-- What a form parses, and the words after it.
abbrev ReadFits : Option (LineRequest × List (List ℕ)) → Type 0
ReadFits read = IfSome read (λ asked. FitsAsked asked.0)

call_fits : (forms : List OperationForm) (nodes : Group) (words : List (List ℕ)) → are_short forms ≡ true → ReadFits (call_at forms nodes words)
unfolding call_at
call_fits forms nodes words are = after_node (node_at nodes words)
  where
    after_operation : (node client number : ℕ) → client < 2 ^ 32 → (1 ≤ number) × (number < 2 ^ 64)
        → (o : Option (List ℕ × List (List ℕ))) → IfSome o (λ operation. length operation.0 ≤ 1024)
        → ReadFits (o >>= (λ operation. Some (Call node client number operation.0, operation.1)))
    after_operation node client number low within None short = tt
    after_operation node client number low within (Some operation) short = (low, within.0, within.1, short)

    after_number : (node client : ℕ) → client < 2 ^ 32 → (o : Option (ℕ × List (List ℕ))) → IfSome o (λ number. (1 ≤ number.0) × (number.0 < 2 ^ 64))
        → ReadFits (o >>= (λ number. operation_at forms number.1 >>= (λ operation. Some (Call node client number.0 operation.0, operation.1))))
    after_number node client low None within = tt
    after_number node client low (Some number) within = after_operation node client number.0 low within (operation_at forms number.1) (operation_low forms number.1 are)

    after_client : (node : ℕ) → (o : Option (ℕ × List (List ℕ))) → IfSome o (λ client. client.0 < 2 ^ 32)
        → ReadFits (o >>= (λ client. number_at 1 (2 ^ 64 - 1) client.1
        >>= (λ number. operation_at forms number.1 >>= (λ operation. Some (
          Call node client.0 number.0 operation.0,
          operation.1,
        )))))
    after_client node None low = tt
    after_client node (Some client) low = after_number node client.0 low (number_at 1 (2 ^ 64 - 1) client.1) (number_low client.1)

    after_node : (o : Option (ℕ × List (List ℕ)))
        → ReadFits (o >>= (λ node. number_at 0 (2 ^ 32 - 1) node.1 >>= (λ client. number_at 1 (2 ^ 64 - 1) client.1
        >>= (λ number. operation_at forms number.1 >>= (λ operation. Some (
          Call node.0 client.0 number.0 operation.0,
          operation.1,
        ))))))
    after_node None = tt
    after_node (Some node) = after_client node.0 (number_at 0 (2 ^ 32 - 1) node.1) (client_low node.1)

deliver_fits : (nodes : Group) (words : List (List ℕ)) → ReadFits (deliver_at nodes words)
unfolding deliver_at
deliver_fits nodes words = grind arith

timeout_fits : (nodes : Group) (words : List (List ℕ)) → ReadFits (timeout_at nodes words)
unfolding timeout_at
timeout_fits nodes words = grind arith

noise_fits : (nodes : Group) (words : List (List ℕ)) → ReadFits (noise_at nodes words)
unfolding noise_at
noise_fits nodes words = grind arith

stop_fits : (nodes : Group) (words : List (List ℕ)) → ReadFits (stop_at nodes words)
unfolding stop_at
stop_fits nodes words = grind arith

cut_fits : (nodes : Group) (words : List (List ℕ)) → ReadFits (cut_line_at nodes words)
unfolding cut_line_at
cut_fits nodes words = grind arith

pump_fits : (words : List (List ℕ)) → ReadFits (pump_at words)
unfolding pump_at
pump_fits words = grind arith

form_fits : (forms : List OperationForm) (nodes : Group) (word : List ℕ) (words : List (List ℕ)) → are_short forms ≡ true
    → ReadFits (form_at forms nodes word words)
unfolding form_at
form_fits forms nodes word words are = grind (arith, call_fits forms nodes words are, deliver_fits, timeout_fits, noise_fits, stop_fits, cut_fits, pump_fits)

-- ---- one line.

whole_fits : (read : Option (LineRequest × List (List ℕ))) → ReadFits read → IfSome (read >>= whole) FitsAsked
whole_fits read fits = grind arith

words_fit : (forms : List OperationForm) (nodes : Group) (words : List (List ℕ)) → are_short forms ≡ true
    → IfSome (word_at words >>= (λ word. form_at forms nodes word.0 word.1 >>= whole)) FitsAsked
words_fit forms nodes [] are = tt
words_fit forms nodes (word ∷ words) are = whole_fits (form_at forms nodes word words) (form_fits forms nodes word words are)

asked_fits : (forms : List OperationForm) (nodes : Group) (line : List ℕ) → are_short forms ≡ true → IfSome (request_in forms nodes line) FitsAsked
unfolding request_in
asked_fits forms nodes line are = words_fit forms nodes (words_of line) are

-- ---- all lines.

-- The requests with their numbers are within the limits.
abbrev AllFit : List (ℕ × LineRequest) → Type 0
AllFit asked = AllByRecursion (λ (a : ℕ × LineRequest). FitsAsked a.1) asked

told_fits : (forms : List OperationForm) (nodes : Group) (line : List ℕ) → are_short forms ≡ true
    → IfSome (unless_skipped (request_in forms nodes) line) (λ told. IfSome told FitsAsked)
told_fits forms nodes line are = grind (arith, asked_fits forms nodes line are)

then_fits : (number : ℕ) (told : Option (Option LineRequest)) (others : Result (List (ℕ × LineRequest)) ℕ)
    → IfSome told (λ asked. IfSome asked FitsAsked) → IfOk others AllFit → IfOk (then_request number told others) AllFit
then_fits number told others first later = grind arith

all_fit : (forms : List OperationForm) (nodes : Group) (before : ℕ) (lines : List (List ℕ)) → are_short forms ≡ true
    → IfOk (requests_in forms nodes before lines) AllFit
unfolding requests_in
all_fit forms nodes before [] are = tt
all_fit forms nodes before (line ∷ lines) are =
    then_fits (before + 1) (unless_skipped (request_in forms nodes) line) (requests_in forms nodes (before + 1) lines)
    (told_fits forms nodes line are) (all_fit forms nodes (before + 1) lines are)

-- The same for the program's lines.
IsFit-asked : {A : Type 0} (line : ScriptLine A) → FitsAsked (request_of line) → IsFit line
IsFit-asked (lines.Call node call) fits = record { client = fits.0; number = fits.1; number_fits = fits.2; op = fits.3 }
IsFit-asked (lines.Deliver node frame) fits = tt
IsFit-asked (lines.Timeout node kind) fits = tt
IsFit-asked (lines.Noise node bytes) fits = tt
IsFit-asked (lines.Stop node) fits = tt
IsFit-asked (lines.Cut groups) fits = tt
IsFit-asked lines.Heal fits = tt
IsFit-asked (lines.Pump turns) fits = tt
IsFit-asked lines.Show fits = tt

AreFit-numbered : {A : Type 0} (lines : List (NumberedLine A)) → AllFit (map numbered_by lines) → AreFit lines
AreFit-numbered [] fit = tt
AreFit-numbered (line ∷ lines) fit = (IsFit-asked line.line fit.0, AreFit-numbered lines fit.1)

-- The parsed lines of a text.
pub lines_fit : {A : Type 0} (forms : List OperationForm) (nodes : Group) (before : ℕ) (text : List (List ℕ)) (lines : List (NumberedLine A))
    → are_short forms ≡ true → requests_in forms nodes before text ≡ Ok (map numbered_by lines) → AreFit lines
lines_fit forms nodes before text lines are read = AreFit-numbered lines (IfOk-at_ok AllFit read (all_fit forms nodes before text are))
