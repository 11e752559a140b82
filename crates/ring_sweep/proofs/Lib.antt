-- Absent: A number past that of the last variant has no variant.
-- Gapping: The run of a script from position to position among its lines, up to one of its events.
-- Inserted: A script's text with the lines of an injection put in.
-- Legality: Whether a run is legal.
-- OtherNodes: The list of all nodes but one.
-- Placing: Each stop and each cut has its index among the variants.
-- Printing: The script of a variant is printed.
-- TextLines: The lines of a text, counted byte after byte.
-- Trying: The variants are run one after another, in ranges one after the other.
-- Walking: A running script, one step after another, and the effect of its steps.
pub mod Absent
pub mod Gapping
pub mod Inserted
pub mod Legality
pub mod OtherNodes
pub mod Placing
pub mod Printing
pub mod TextLines
pub mod Trying
pub mod Walking
