-- The text that a live run prints, and its refusals.
-- Formats: The command line
use Rattle.std.specs.Prelude.{◌≡◌, ℕ, ◌⊎◌, List, ◌++◌, codes, Ok, Err}
use Rattle.std.specs.Fmt.{decimal}
use Rattle.ring_base.specs.Processors.{IsProc}
use Rattle.ring_base.specs.declared.fault.Fault.{Fault}
use Rattle.ring_base.specs.declared.fault.Fault.TheVariants.{NotMember, Memory}
use Rattle.ring_failure.specs.Texts.{line_of, legal_text}
use Rattle.ring_failure.specs.declared.failure.Failure.{Failure}
use Rattle.ring_failure.specs.declared.failure.Failure.TheVariants.{Refused, BadFrame, BadScript, Output}
use Rattle.ring_live.specs.declared.running.LiveResult.{LiveResult}

-- The four lines: the number of nodes, the number of adds answered, the counter, and whether the history is legal.
abbrev pub live_result_text : LiveResult → ℕ → List ℕ
live_result_text live_result counter =
    line_of (codes "nodes " ++ decimal live_result.nodes) ++ line_of (codes "calls " ++ decimal live_result.calls) ++ line_of (codes "counter " ++ decimal counter)
    ++ line_of (legal_text live_result.is_legal)

-- The reason why a run is refused: there can't be this number of nodes; or there can, and memory or a thread is refused.
abbrev pub IsNotRun : ℕ → Fault → Type 0
IsNotRun nodes fault = ((fault ≡ NotMember) × ¬ IsProc nodes) ⊎ ((fault ≡ Memory) × IsProc nodes)

-- The reason why a result isn't printed: its counter wasn't read, and the output is unchanged; or it was read, and the
-- output failed.
abbrev pub IsNotPrinted : {W : Type 0} → LiveResult → W → W → Failure → Type 0
IsNotPrinted live_result old new (Refused fault) = (live_result.counter ≡ Err fault) × (new ≡ old)
IsNotPrinted live_result old new Output = (counter : ℕ) × (live_result.counter ≡ Ok counter)
IsNotPrinted live_result old new (BadFrame byte) = ⊥
IsNotPrinted live_result old new (BadScript line) = ⊥
