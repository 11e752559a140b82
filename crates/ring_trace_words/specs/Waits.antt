-- Waiting calls.
-- Formats: The command line
use Rattle.std.specs.Prelude.{ℕ, ◌+◌, ◌==◌, ◌&&◌, Bool, List, ◌++◌, take, drop, position, Option, Some, None}
use Rattle.ring_trace_words.specs.declared.waiting.WaitingCall.{WaitingCall}

-- Whether the two are the same call, at the same node.
abbrev pub is_same : WaitingCall → WaitingCall → Bool
is_same one other = one.node == other.node && one.client == other.client && one.number == other.number

-- The calls without the one at this index, if there is one.
abbrev pub without_place : Option ℕ → List WaitingCall → List WaitingCall
without_place None calls = calls
without_place (Some place) calls = take place calls ++ drop (place + 1) calls

-- The calls without the first that equals this one, or all of them if none does.
abbrev pub without : WaitingCall → List WaitingCall → List WaitingCall
without call calls = without_place (position (is_same call) calls) calls
