-- The script of a variant as a text.
-- Formats: The command line
use Rattle.std.specs.Prelude.{◌≡◌, ℕ, zero, suc, ◌+◌, ◌-◌, ◌≤◌, ◌==◌, nat_lt, Bool, true, if◌then◌else◌}
use Rattle.std.specs.Prelude.{List, [], ◌∷◌, ◌++◌, length, take, drop, slice_get, Option, Some, None, codes}
use Rattle.std.specs.Fmt.{decimal}
use Rattle.std.specs.List.{join_by}
use Rattle.ring_base.specs.Group.{Group}
use Rattle.ring_object.specs.Operations.{Sequential}
use Rattle.ring_script.specs.declared.line.ScriptLine.{ScriptLine}
use Rattle.ring_script.specs.declared.line.ScriptLine.TheVariants.{Pump}
use Rattle.ring_script.specs.declared.scripts.NumberedLine.{NumberedLine}
use Rattle.ring_failure.specs.Texts.{line_of}
use Rattle.ring_sweep.specs.declared.injection.InjectionKind.{InjectionKind}
use Rattle.ring_sweep.specs.declared.injection.InjectionKind.TheVariants as injections
use Rattle.ring_sweep.specs.declared.injection.Injection.{Injection}
use Rattle.ring_sweep.specs.declared.script_position.ScriptPosition.{ScriptPosition}
use Rattle.ring_sweep.specs.ScriptPositions.{IsScriptPosition}
use Rattle.ring_sweep.specs.SweepResult.{injection_text}

-- ---- the injected lines.

-- The comment above an injected line, which names the injection.
abbrev pub comment_of : ℕ → Injection → List ℕ
comment_of events u = line_of (codes "# " ++ injection_text events u)

-- The first `count` nodes but this one, ascending.
unfoldable pub other_nodes : ℕ → ℕ → List ℕ
other_nodes node zero = []
other_nodes node (suc count) = other_nodes node count ++ (if node == suc count then [] else (suc count ∷ []))

-- The line of an injection of this kind. The cut of the only node has none.
abbrev pub injection_line : InjectionKind → ℕ → ℕ → List ℕ
injection_line injections.Stop node count = line_of (codes "stop " ++ decimal node)
injection_line injections.Cut node count =
    if nat_lt count 2 then [] else line_of (codes "cut " ++ decimal node ++ codes " " ++ join_by decimal (codes ",") (other_nodes node count))

-- The comment and the line of an injection into a script with `count` nodes.
abbrev pub injected_lines : ℕ → ℕ → Injection → List ℕ
injected_lines count events u = comment_of events u ++ injection_line u.injection_kind u.node count

-- A pump's line.
abbrev pub pump_line : ℕ → List ℕ
pump_line turns = line_of (codes "pump " ++ decimal turns)

-- ---- the lines of a text.

-- The length of the first `n` lines of a text, with their line feeds.
unfoldable pub lines_length : ℕ → List ℕ → ℕ
lines_length zero text = 0
lines_length (suc n) [] = 0
lines_length (suc n) (b ∷ text) = suc (lines_length (if b == 10 then n else suc n) text)

-- The first `n` lines of a text, and the text after them.
abbrev pub first_lines : ℕ → List ℕ → List ℕ
first_lines n text = take (lines_length n text) text

abbrev pub lines_after : ℕ → List ℕ → List ℕ
lines_after n text = drop (lines_length n text) text

-- Whether a text is empty or its last byte is a line feed.
abbrev pub ends_line : Option ℕ → Bool
ends_line None = true
ends_line (Some last) = last == 10

abbrev pub is_ended : List ℕ → Bool
is_ended text = ends_line (slice_get text (length text - 1))

-- The text, with a line feed after it if its last line has none.
abbrev pub ended_text : List ℕ → List ℕ
ended_text text = if is_ended text then text else text ++ 10 ∷ []

-- ---- the whole text.

-- The turns of a pump that is split since some of them come before the injection.
abbrev pub split_turns : {A : Type 0} → ScriptLine A → ℕ → Option ℕ
split_turns (Pump turns) (suc taken) = Some turns
split_turns _ taken = None

-- The injected lines, above the line with which a text begins, or between the first `taken` turns of a pump there and
-- the others.
abbrev pub with_injected : Option ℕ → ℕ → List ℕ → List ℕ → List ℕ
with_injected None taken injected text = injected ++ ended_text text
with_injected (Some turns) taken injected text =
    pump_line taken ++ injected ++ pump_line (turns - taken) ++ ended_text (lines_after 1 text)

-- A script's text with the lines of an injection, put in `taken` turns after the beginning of this line, or at the end.
abbrev pub text_with_injection : {A : Type 0} → List ℕ → Option (NumberedLine A) → ℕ → ℕ → Injection → List ℕ
text_with_injection text None taken count u = ended_text text ++ injected_lines count u.before u
text_with_injection text (Some next) taken count u =
    first_lines (next.number - 1) text
    ++ with_injected (split_turns next.line taken) taken (injected_lines count (u.before + 1) u) (lines_after (next.number - 1) text)

-- The text is the script of a variant: the script's own text with the lines of the injection, at the injection's
-- position.
pub record IsVariantText {O A : Type 0} (object : Sequential O) (group : Group) (lines : List (NumberedLine A)) (text : List ℕ) (u : Injection) (printed : List ℕ) : Type 0 where
  pub position : ScriptPosition
  pub is_position : IsScriptPosition object group lines u.before position
  pub reached : u.before ≤ position.events
  pub whole : printed ≡ text_with_injection text (slice_get lines position.lines) position.turns group.count u
