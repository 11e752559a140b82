-- The whole script language: the script that a text is, or its first line at fault.
-- Rules: Limits 1 and 2
-- Formats: Scripts
use Rattle.std.specs.Prelude.{◌≡◌, ℕ, ◌+◌, ◌≤◌, ◌⊎◌, if◌then◌else◌, List, [], ◌∷◌}
use Rattle.std.specs.Prelude.{length, map, codes, Option, Some, None, option_map, Result, Ok, Err, ⊤}
use Rattle.std.specs.List.{AllByRecursion}
use Rattle.ring_base.specs.Group.{Group}
use Rattle.ring_base.specs.declared.fault.Fault.{Fault}
use Rattle.ring_base.specs.declared.fault.Fault.TheVariants as faults
use Rattle.ring_script.specs.declared.scripts.NumberedLine.{NumberedLine}
use Rattle.ring_script.specs.declared.scripts.Script.{Script}
use Rattle.ring_script.specs.declared.scripts.ScriptFault.{ScriptFault}
use Rattle.ring_script.specs.declared.scripts.ScriptFault.TheVariants.{Memory, AtLine}
use Rattle.ring_script.specs.Lines.{LineRequest, request_of, request_in, IsAmong}
use Rattle.ring_script.specs.Numbers.{is, word_at, number_at}
use Rattle.ring_script.specs.Operations.{OperationForm}
use Rattle.ring_script.specs.Reading.{◌>>=◌}
use Rattle.ring_script.specs.ShelfVocabulary.{shelf_operation_forms}
use Rattle.ring_script.specs.Votes.{nodes_with_one_vote, votes_in}
use Rattle.ring_script.specs.Words.{LinesLeft, words_of, whole, are_ascii, is_skipped, lines_of}

-- ---- lines.

-- The nodes that a line `nodes N` gives, with one vote each.
unfoldable pub parse_node_words : List ℕ → Option Group
parse_node_words line = do
  word ← word_at (words_of line)
  count ← if is (codes "nodes") word.0 then number_at 1 16 word.1 else None
  nodes ← whole count
  Some (nodes_with_one_vote nodes)

-- A skipped line yields nothing, and any other line what `read` yields; a byte that isn't ASCII is a fault in both.
abbrev pub unless_skipped : {X : Type 0} → (List ℕ → Option X) → List ℕ → Option (Option X)
unless_skipped read line = if are_ascii line then (if is_skipped line then Some None else option_map Some (read line)) else None

-- ---- scripts.

-- The nodes with their votes, and the requests of the lines, each with its line's number.
pub record Schedule : Type 0 where
  pub nodes : Group
  pub asked : List (ℕ × LineRequest)

-- A request before those of the other lines, if those can be parsed.
abbrev pub with_request : ℕ × LineRequest → Result (List (ℕ × LineRequest)) ℕ → Result (List (ℕ × LineRequest)) ℕ
with_request asked (Ok others) = Ok (asked ∷ others)
with_request asked (Err line) = Err line

-- Combines one line with the others: the line is at fault, skipped, or a request.
abbrev pub then_request : ℕ → Option (Option LineRequest) → Result (List (ℕ × LineRequest)) ℕ → Result (List (ℕ × LineRequest)) ℕ
then_request number None others = Err number
then_request number (Some None) others = others
then_request number (Some (Some asked)) others = with_request (number, asked) others

-- The requests of the lines, each with its line's number, or the number of the first line at fault; `before` lines come
-- before them.
unfoldable pub requests_in : List OperationForm → Group → ℕ → List (List ℕ) → Result (List (ℕ × LineRequest)) ℕ
requests_in forms nodes before [] = Ok []
requests_in forms nodes before (line ∷ lines) =
    then_request (before + 1) (unless_skipped (request_in forms nodes) line) (requests_in forms nodes (before + 1) lines)

-- Combines one line with the others: the line is at fault, skipped, or gives the nodes.
abbrev pub then_nodes : ℕ → Option (Option Group) → List (List ℕ) → Result (Group × LinesLeft) ℕ → Result (Group × LinesLeft) ℕ
then_nodes number None lines others = Err number
then_nodes number (Some None) lines others = others
then_nodes number (Some (Some nodes)) lines others = Ok (nodes, record { before = number; lines = lines })

-- The nodes that the first effective line gives, and the lines after it; if all are skipped, the number after the last
-- line's.
unfoldable pub nodes_in : ℕ → List (List ℕ) → Result (Group × LinesLeft) ℕ
nodes_in before [] = Err (before + 1)
nodes_in before (line ∷ lines) = then_nodes (before + 1) (unless_skipped (parse_node_words) line) lines (nodes_in (before + 1) lines)

-- A schedule of these nodes, if the lines can be parsed.
abbrev pub with_nodes : Group → Result (List (ℕ × LineRequest)) ℕ → Result Schedule ℕ
with_nodes nodes (Ok asked) = Ok (record { nodes = nodes; asked = asked })
with_nodes nodes (Err line) = Err line

-- The schedule of the nodes with their votes and of the lines after them.
abbrev pub with_votes : List OperationForm → Result (Group × LinesLeft) ℕ → Result Schedule ℕ
with_votes forms (Ok voted) = with_nodes voted.0 (requests_in forms voted.0 voted.1.before voted.1.lines)
with_votes forms (Err line) = Err line

-- The schedule of the nodes and of the lines after them, of which the first may give votes.
abbrev pub schedule_of : List OperationForm → Result (Group × LinesLeft) ℕ → Result Schedule ℕ
schedule_of forms (Ok first) = with_votes forms (votes_in first.0 first.1.before first.1.lines)
schedule_of forms (Err line) = Err line

-- The script that a text is, for an object with these operations, or the number of its first line at fault, counted
-- from 1; that is the number after the last line's if all lines are skipped.
unfoldable pub script_by : List OperationForm → List ℕ → Result Schedule ℕ
script_by forms text = schedule_of forms (nodes_in 0 (lines_of text))

-- The script that a text is, for the standard object.
abbrev pub script_of : List ℕ → Result Schedule ℕ
script_of text = script_by shelf_operation_forms text

-- ---- the results of the program's calls.

-- A numbered line, as the program holds it.
abbrev pub numbered_by : {A : Type 0} → NumberedLine A → ℕ × LineRequest
numbered_by numbered = (numbered.number, request_of numbered.line)

-- A script, as the program holds it.
abbrev pub schedule_by : {A : Type 0} → Script A → Schedule
schedule_by script = record { nodes = script.nodes; asked = map numbered_by script.lines.items }

-- No line names a node above this count.
abbrev pub AreAmong : {A : Type 0} → ℕ → List (NumberedLine A) → Type 0
AreAmong count lines = AllByRecursion (λ (l : NumberedLine _). IsAmong count (request_of l.line)) lines

-- A fault: `Memory` at any time, or the line at fault, which is the first.
abbrev pub Faults : {Y : Type 0} → ScriptFault → Result Y ℕ → Type 0
Faults Memory read = ⊤
Faults (AtLine line) read = read ≡ Err line

-- The script's fault for a fault in the line of this number.
abbrev pub at_line : Fault → ℕ → ScriptFault
at_line faults.Memory number = Memory
at_line _ number = AtLine number

-- A call returns the parsed value, seen through `view`, or the line at fault, unless an allocation failed.
abbrev pub Answers : {X Y : Type 0} → (X → Y) → Result X ScriptFault → Result Y ℕ → Type 0
Answers view (Ok x) read = read ≡ Ok (view x)
Answers view (Err fault) read = Faults fault read

-- ---- inputs.

-- The maximum length of a script in bytes.
abbrev pub max_script_bytes : ℕ
max_script_bytes = 1048576

-- These are all bytes of an input, if those are known.
abbrev pub IsAllOf : Option (List ℕ) → List ℕ → Type 0
IsAllOf None bytes = ⊤
IsAllOf (Some known) bytes = bytes ≡ known

-- The result for an input of these bytes: line 0 if it can't be read or is too long, and otherwise the result for its
-- text.
abbrev pub IsScriptOfInputBy : {A : Type 0} → List OperationForm → Result (Script A) ScriptFault → List ℕ → Type 0
IsScriptOfInputBy forms (Ok script) bytes = (length bytes ≤ max_script_bytes) × (script_by forms bytes ≡ Ok (schedule_by script))
IsScriptOfInputBy forms (Err Memory) bytes = ⊤
IsScriptOfInputBy forms (Err (AtLine line)) bytes = (line ≡ 0) ⊎ ((length bytes ≤ max_script_bytes) × (script_by forms bytes ≡ Err line))

-- The same for the standard object.
abbrev pub IsScriptOfInput : {A : Type 0} → Result (Script A) ScriptFault → List ℕ → Type 0
IsScriptOfInput answer bytes = IsScriptOfInputBy shelf_operation_forms answer bytes

-- An input is refused as a whole: an allocation fails, or it can't be read or is too long.
abbrev pub IsInputFault : ScriptFault → Type 0
IsInputFault Memory = ⊤
IsInputFault (AtLine line) = line ≡ 0
