-- Bits: The held bits of a commit entry are exactly what is held after the front.
-- HeldFront: The front of what is held: each number up to it is held, the next is not, and with more held it is no smaller.
-- WordBits: Bits that span two words, and words as bits.
-- Windows: The state kept of a window as it changes: nothing held, a message taken, numbers forgotten.
-- Missing: The missing numbers, counted from one clear bit to the next; and the bits of a commit entry, computed from the
-- words.
-- OfRing: A node's messages of all rings are in one list, a window's of one ring; facts about one ring agree.
-- Finding: A held number's message is found, a number with a found message is held, and what was held stays held with more
-- messages.
pub mod Bits
pub mod HeldFront
pub mod WordBits
pub mod Windows
pub mod Missing
pub mod OfRing
pub mod Finding
