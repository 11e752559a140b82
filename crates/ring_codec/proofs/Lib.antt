-- Loops: values read, and written, one after the other in a loop.
-- NumbersInBytes: numbers encoded one after the other are those that are read there.
-- Writes: appending in two steps appends the one text after the other.
pub mod Loops
pub mod NumbersInBytes
pub mod Writes
