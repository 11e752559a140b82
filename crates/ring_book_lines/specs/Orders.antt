-- The calls that steps submitted.
-- Rules: The replicated log 13
use Rattle.std.specs.Prelude.{List, [], ◌∷◌, ◌++◌}
use Rattle.ring_payload.specs.declared.call.Call.{Call}
use Rattle.ring_book_lines.specs.declared.input.LineInput.{LineInput}
use Rattle.ring_book_lines.specs.declared.input.LineInput.TheVariants.{Submitted, Received}
use Rattle.ring_book_lines.specs.Steps.{StepView}

-- the submitted call, if the input is one
abbrev pub call_in : {A : Type 0} → LineInput A → List (Call A)
call_in (Submitted c) = c ∷ []
call_in (Received input at) = []

-- the calls that the steps submitted, in order; a ticket is a place in this list
abbrev pub calls_of : {A : Type 0} → List (StepView A) → List (Call A)
calls_of [] = []
calls_of (s ∷ ss) = call_in s.input ++ calls_of ss
