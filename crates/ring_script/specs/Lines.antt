-- The lines of a script after its first: the requests that their words denote.
-- Formats: Scripts
use Rattle.std.specs.Prelude.{ℕ, ◌^◌, ◌-◌, ◌≤◌, Bool, false, ◌==◌, if◌then◌else◌, List, codes, Option, Some, None, IfSome}
use Rattle.ring_base.specs.Group.{Group}
use Rattle.ring_base.specs.declared.timeout_kind.Kind.{Kind}
use Rattle.ring_base.specs.declared.timeout_kind.Kind.TheVariants as kinds
use Rattle.ring_script.specs.declared.line.ScriptLine.{ScriptLine}
use Rattle.ring_script.specs.declared.line.ScriptLine.TheVariants as lines
use Rattle.ring_script.specs.Cuts.{cut_at}
use Rattle.ring_script.specs.HexWords.{decode_hex_word}
use Rattle.ring_script.specs.Numbers.{is, decimal_of, word_at, number_at, node_at}
use Rattle.ring_script.specs.Operations.{OperationForm, operation_at}
use Rattle.ring_script.specs.Reading.{◌>>=◌}
use Rattle.ring_script.specs.Words.{words_of, whole}
use Rattle.ring_base.specs.Numbers.{max_frame_bytes}

-- ---- the requests of lines.

pub data LineRequest : Type 0 where
  -- A client's call is submitted at the node.
  Call : (node client number : ℕ) → (operation : List ℕ) → LineRequest
  -- The frame with this number is delivered at the node; None is a number that no u64 holds.
  Deliver : (node : ℕ) → (frame : Option ℕ) → LineRequest
  Timeout : (node : ℕ) → (kind : Kind) → LineRequest
  -- Bytes that no node sent arrive at the node.
  Noise : (node : ℕ) → (bytes : List ℕ) → LineRequest
  Stop : (node : ℕ) → LineRequest
  -- The group of each processor.
  Cut : (groups : List ℕ) → LineRequest
  Heal : LineRequest
  Pump : (turns : ℕ) → LineRequest
  Show : LineRequest

-- The request of a line, as the program holds it.
abbrev pub request_of : {A : Type 0} → ScriptLine A → LineRequest
request_of (lines.Call node call) = Call node call.client call.number call.op
request_of (lines.Deliver node frame) = Deliver node frame
request_of (lines.Timeout node kind) = Timeout node kind
request_of (lines.Noise node bytes) = Noise node bytes.items
request_of (lines.Stop node) = Stop node
request_of (lines.Cut groups) = Cut groups
request_of lines.Heal = Heal
request_of (lines.Pump turns) = Pump turns
request_of lines.Show = Show

-- The node that the request concerns, if it concerns one.
abbrev pub requested_node : LineRequest → Option ℕ
requested_node (Call node client number operation) = Some node
requested_node (Deliver node frame) = Some node
requested_node (Timeout node kind) = Some node
requested_node (Noise node bytes) = Some node
requested_node (Stop node) = Some node
requested_node _ = None

-- The request concerns one of `count` nodes, or none.
abbrev pub IsAmong : ℕ → LineRequest → Type 0
IsAmong count asked = IfSome (requested_node asked) (λ node. node ≤ count)

-- ---- the values of single words.

-- The timeout with this name.
unfoldable pub timeout_kind_of : List ℕ → Option Kind
timeout_kind_of word =
    if is (codes "retransmit") word then Some kinds.Retransmit
    else if is (codes "join") word then Some kinds.Join
    else if is (codes "consensus") word then Some kinds.Consensus
    else if is (codes "loss") word then Some kinds.Loss
    else None

-- Whether this is the number 0.
abbrev pub is_zero : Option ℕ → Bool
is_zero None = false
is_zero (Some number) = number == 0

-- The number of a frame, at least 1; `Some None` is one that no u64 holds.
unfoldable pub frame_of : List ℕ → Option (Option ℕ)
frame_of word = do
  frame ← decimal_of word
  if is_zero frame then None else Some frame

-- The number of a frame that the next word denotes, and the words after it.
abbrev pub frame_at : List (List ℕ) → Option (Option ℕ × List (List ℕ))
frame_at words = do
  word ← word_at words
  frame ← frame_of word.0
  Some (frame, word.1)

-- ---- the forms of lines: each is parsed from the words after the first, and leaves the words after its own.

-- `call NODE CLIENT NUMBER OP..`.
unfoldable pub call_at : List OperationForm → Group → List (List ℕ) → Option (LineRequest × List (List ℕ))
call_at forms nodes words = do
  node ← node_at nodes words
  client ← number_at 0 (2 ^ 32 - 1) node.1
  number ← number_at 1 (2 ^ 64 - 1) client.1
  operation ← operation_at forms number.1
  Some (Call node.0 client.0 number.0 operation.0, operation.1)

-- `deliver NODE FRAME`.
unfoldable pub deliver_at : Group → List (List ℕ) → Option (LineRequest × List (List ℕ))
deliver_at nodes words = do
  node ← node_at nodes words
  word ← word_at node.1
  frame ← frame_of word.0
  Some (Deliver node.0 frame, word.1)

-- `timeout NODE KIND`.
unfoldable pub timeout_at : Group → List (List ℕ) → Option (LineRequest × List (List ℕ))
timeout_at nodes words = do
  node ← node_at nodes words
  word ← word_at node.1
  kind ← timeout_kind_of word.0
  Some (Timeout node.0 kind, word.1)

-- `noise NODE HEX`.
unfoldable pub noise_at : Group → List (List ℕ) → Option (LineRequest × List (List ℕ))
noise_at nodes words = do
  node ← node_at nodes words
  word ← word_at node.1
  bytes ← decode_hex_word max_frame_bytes word.0
  Some (Noise node.0 bytes, word.1)

-- `stop NODE`.
unfoldable pub stop_at : Group → List (List ℕ) → Option (LineRequest × List (List ℕ))
stop_at nodes words = do
  node ← node_at nodes words
  Some (Stop node.0, node.1)

-- `cut GROUP GROUP..`.
unfoldable pub cut_line_at : Group → List (List ℕ) → Option (LineRequest × List (List ℕ))
cut_line_at nodes words = do
  groups ← cut_at nodes words
  Some (Cut groups.0, groups.1)

-- `pump K`.
unfoldable pub pump_at : List (List ℕ) → Option (LineRequest × List (List ℕ))
pump_at words = do
  turns ← number_at 1 100000 words
  Some (Pump turns.0, turns.1)

-- The form that begins with this first word.
unfoldable pub form_at : List OperationForm → Group → List ℕ → List (List ℕ) → Option (LineRequest × List (List ℕ))
form_at forms nodes word words =
    if is (codes "call") word then call_at forms nodes words
    else if is (codes "deliver") word then deliver_at nodes words
    else if is (codes "timeout") word then timeout_at nodes words
    else if is (codes "noise") word then noise_at nodes words
    else if is (codes "stop") word then stop_at nodes words
    else if is (codes "cut") word then cut_line_at nodes words
    else if is (codes "heal") word then Some (Heal, words)
    else if is (codes "pump") word then pump_at words
    else if is (codes "show") word then Some (Show, words)
    else None

-- The request of a line, for an object with these operations.
unfoldable pub request_in : List OperationForm → Group → List ℕ → Option LineRequest
request_in forms nodes line = do
  word ← word_at (words_of line)
  read ← form_at forms nodes word.0 word.1
  whole read
