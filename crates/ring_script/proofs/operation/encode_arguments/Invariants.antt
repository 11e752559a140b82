use Rattle.std.proofs.Common.{◌≡◌, drop}
use Rattle.ring_script.specs.Operations.{arguments_after}
use Rattle.ring_script.proofs.operation.encode_arguments.Given as goal

-- The bytes so far, and then the encodings of the remaining arguments, are the bytes before and the encodings of all of
-- them.
abbrev pub invariant-loop-argument : goal.invariant-loop-argument
invariant-loop-argument g l =
    arguments_after l.bytes.items (drop l.argument-index l.arguments) l.words ≡ arguments_after l.initial.bytes.items l.arguments l.initial.words
