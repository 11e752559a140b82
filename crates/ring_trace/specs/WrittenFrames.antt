-- The frames of a run that are written to a file.
-- Formats: The command line
use Rattle.std.specs.Prelude.{ℕ, List, Option}
use Rattle.std.specs.Io.KnownBytes.{Appends}
use Rattle.ring_object.specs.Operations.{Sequential}
use Rattle.ring_script.specs.declared.scripts.Script.{Script}
use Rattle.ring_console.specs.Worlds.{text_of, world_of}
use Rattle.ring_console.specs.Running.{RunView, run_opening, AreLinesDone}

-- Some run carries out all of a script's lines, and the encodings of all frames sent in it were written, in order.
abbrev pub HasWrittenFrames : {O A : Type 0} → Sequential O → Script A → Option (List ℕ) → Option (List ℕ) → Type 0
HasWrittenFrames {A = A} object script written written' =
    (run : RunView A) × (text : List ℕ) × AreLinesDone object script.lines.items (run_opening script.nodes) run text
    × Appends written written' (text_of (world_of object run.world_view).frames)
