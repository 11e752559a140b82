-- No line of a script names a node past the script's nodes.
use Rattle.std.proofs.Common.{◌≡◌, ℕ, ◌+◌, ◌≤◌, List, [], ◌∷◌, map, Option, Result, Ok, arith}
use Rattle.std.specs.Prelude.{IfSome, IfOk}
use Rattle.std.specs.List.{AllByRecursion}
use Rattle.std.proofs.lemmas.Grind.{common_steps}
use Rattle.std.proofs.lemmas.Result.{IfOk-at_ok}
use Rattle.ring_base.specs.Group.{Group}
use Rattle.ring_script.specs.declared.scripts.NumberedLine.{NumberedLine}
use Rattle.ring_script.specs.Lines.{LineRequest, IsAmong, call_at, deliver_at, timeout_at, noise_at, stop_at, cut_line_at, pump_at, form_at, request_in}
use Rattle.ring_script.specs.Numbers.{word_at, node_at}
use Rattle.ring_script.specs.Operations.{OperationForm}
use Rattle.ring_script.specs.Reading.{◌>>=◌}
use Rattle.ring_script.specs.Scripts.{unless_skipped, then_request, requests_in, numbered_by, AreAmong}
use Rattle.ring_script.specs.Words.{words_of, whole}

-- ---- the forms of lines.

node_low : (nodes : Group) (words : List (List ℕ)) → IfSome (node_at nodes words) (λ node. node.0 ≤ nodes.count)
node_low nodes words = grind (arith, common_steps)

-- What a form parses, and the words after it: the request concerns one of `count` nodes, or none.
abbrev ReadAmong : ℕ → Option (LineRequest × List (List ℕ)) → Type 0
ReadAmong count read = IfSome read (λ asked. IsAmong count asked.0)

call_among : (forms : List OperationForm) (nodes : Group) (words : List (List ℕ)) → ReadAmong nodes.count (call_at forms nodes words)
unfolding call_at
call_among forms nodes words = grind (arith, node_low)

deliver_among : (nodes : Group) (words : List (List ℕ)) → ReadAmong nodes.count (deliver_at nodes words)
unfolding deliver_at
deliver_among nodes words = grind (arith, node_low)

timeout_among : (nodes : Group) (words : List (List ℕ)) → ReadAmong nodes.count (timeout_at nodes words)
unfolding timeout_at
timeout_among nodes words = grind (arith, node_low)

noise_among : (nodes : Group) (words : List (List ℕ)) → ReadAmong nodes.count (noise_at nodes words)
unfolding noise_at
noise_among nodes words = grind (arith, node_low)

stop_among : (nodes : Group) (words : List (List ℕ)) → ReadAmong nodes.count (stop_at nodes words)
unfolding stop_at
stop_among nodes words = grind (arith, node_low)

cut_among : (nodes : Group) (words : List (List ℕ)) → ReadAmong nodes.count (cut_line_at nodes words)
unfolding cut_line_at
cut_among nodes words = grind arith

pump_among : (count : ℕ) (words : List (List ℕ)) → ReadAmong count (pump_at words)
unfolding pump_at
pump_among count words = grind arith

form_among : (forms : List OperationForm) (nodes : Group) (word : List ℕ) (words : List (List ℕ)) → ReadAmong nodes.count (form_at forms nodes word words)
unfolding form_at
form_among forms nodes word words = grind (arith, call_among, deliver_among, timeout_among, noise_among, stop_among, cut_among, pump_among)

-- ---- one line.

whole_among : (count : ℕ) (read : Option (LineRequest × List (List ℕ))) → ReadAmong count read → IfSome (read >>= whole) (IsAmong count)
whole_among count read among = grind arith

words_among : (forms : List OperationForm) (nodes : Group) (words : List (List ℕ))
    → IfSome (word_at words >>= (λ word. form_at forms nodes word.0 word.1 >>= whole)) (IsAmong nodes.count)
words_among forms nodes [] = tt
words_among forms nodes (word ∷ words) = whole_among nodes.count (form_at forms nodes word words) (form_among forms nodes word words)

asked_among : (forms : List OperationForm) (nodes : Group) (line : List ℕ) → IfSome (request_in forms nodes line) (IsAmong nodes.count)
unfolding request_in
asked_among forms nodes line = words_among forms nodes (words_of line)

-- ---- all lines.

-- The requests with their numbers: each concerns one of `count` nodes, or none.
abbrev AllAmong : ℕ → List (ℕ × LineRequest) → Type 0
AllAmong count asked = AllByRecursion (λ (a : ℕ × LineRequest). IsAmong count a.1) asked

told_among : (forms : List OperationForm) (nodes : Group) (line : List ℕ)
    → IfSome (unless_skipped (request_in forms nodes) line) (λ told. IfSome told (IsAmong nodes.count))
told_among forms nodes line = grind (arith, asked_among forms nodes line)

then_among : (count number : ℕ) (told : Option (Option LineRequest)) (others : Result (List (ℕ × LineRequest)) ℕ)
    → IfSome told (λ asked. IfSome asked (IsAmong count)) → IfOk others (AllAmong count)
    → IfOk (then_request number told others) (AllAmong count)
then_among count number told others first later = grind arith

all_among : (forms : List OperationForm) (nodes : Group) (before : ℕ) (lines : List (List ℕ)) → IfOk (requests_in forms nodes before lines) (AllAmong nodes.count)
unfolding requests_in
all_among forms nodes before [] = tt
all_among forms nodes before (line ∷ lines) =
    then_among nodes.count (before + 1) (unless_skipped (request_in forms nodes) line)
    (requests_in forms nodes (before + 1) lines) (told_among forms nodes line) (all_among forms nodes (before + 1) lines)

-- The same for the program's lines.
AreAmong-numbered : {A : Type 0} (count : ℕ) (lines : List (NumberedLine A)) → AllAmong count (map numbered_by lines) → AreAmong count lines
AreAmong-numbered count [] among = tt
AreAmong-numbered count (line ∷ lines) among = (among.0, AreAmong-numbered count lines among.1)

-- The parsed lines of a text.
pub lines_among : {A : Type 0} (forms : List OperationForm) (nodes : Group) (before : ℕ) (text : List (List ℕ))
    (lines : List (NumberedLine A)) → requests_in forms nodes before text ≡ Ok (map numbered_by lines)
    → AreAmong nodes.count lines
lines_among forms nodes before text lines read =
    AreAmong-numbered nodes.count lines (IfOk-at_ok (AllAmong nodes.count) read (all_among forms nodes before text))
