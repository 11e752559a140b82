-- Among: No line of a script names a node past the script's nodes.
-- AsciiLines: Whether each byte of a line is below 128, as the library computes it, and of all lines of a text.
-- Cutting: The words of a cut, taken one after the other.
-- Digits: The digits that a text begins with, and the word that they are.
-- Encoding: The encoding of an operation's arguments, one after another.
-- Fitting: Each call that a script asks for is within the limits of a call.
-- FoundForms: The form that a word names, as the program finds it.
-- Inputs: The bytes of an input that was read whole.
-- Lengths: An operation of a script is short enough for a call.
-- Pieces: The first piece of a text, and the first line, by the place of the separator.
-- Readings: The lines of a text, read one after the other.
-- RefusalsPassOn: A refusal of one parse is a refusal of every other that has no value if that one has none.
-- CutGroups: The nodes that a cut keeps together: the group kept for a processor is the only one that it is in.
-- Voting: A line of votes, read word by word.
pub mod Among
pub mod AsciiLines
pub mod Cutting
pub mod Digits
pub mod Fitting
pub mod FoundForms
pub mod Inputs
pub mod Lengths
pub mod Pieces
pub mod Readings
pub mod RefusalsPassOn
pub mod Encoding
pub mod CutGroups
pub mod Voting
