-- The results of the parser's calls, given the value that can be parsed, if any.
-- Formats: Scripts
use Rattle.std.specs.Prelude.{◌≡◌, Option, Some, None, Result, Ok, Err, option_and_then, ⊤}
use Rattle.ring_base.specs.declared.fault.Fault.{Fault}
use Rattle.ring_base.specs.declared.fault.Fault.TheVariants.{Memory, BadScript}

-- One parsing step, then another.
infixl 10 ◌>>=◌
abbrev pub ◌>>=◌ : {A B : Type 0} → Option A → (A → Option B) → Option B
o >>= f = option_and_then f o

-- The fault is `BadScript`, and there is no value to parse.
abbrev pub IsBadScript : {Y : Type 0} → Fault → Option Y → Type 0
IsBadScript BadScript read = read ≡ None
IsBadScript _ read = ⊥

-- The same, but the fault may also be `Memory`, at any time.
abbrev pub IsBadScriptOrMemory : {Y : Type 0} → Fault → Option Y → Type 0
IsBadScriptOrMemory Memory read = ⊤
IsBadScriptOrMemory BadScript read = read ≡ None
IsBadScriptOrMemory _ read = ⊥

-- A call returns the parsed value, seen through `view`, or `BadScript` if there is none.
abbrev pub IsParseResult : {X Y : Type 0} → (X → Y) → Result X Fault → Option Y → Type 0
IsParseResult view (Ok x) read = read ≡ Some (view x)
IsParseResult view (Err e) read = IsBadScript e read

-- The same for a call in which an allocation may fail.
abbrev pub IsParseResultOrMemory : {X Y : Type 0} → (X → Y) → Result X Fault → Option Y → Type 0
IsParseResultOrMemory view (Ok x) read = read ≡ Some (view x)
IsParseResultOrMemory view (Err e) read = IsBadScriptOrMemory e read
