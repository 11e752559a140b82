-- Appended: Appending piece by piece appends the whole.
-- NamesAsked: The rest of an operation on a set of names, after its code, is a name.
-- NamesPlaces: The position of a name among ascending names.
-- NamesRead: Decoding names one after the other.
-- NumbersRead: Numbers read into a list are those that the bytes hold.
-- OperationsRead: The bytes of an operation decode to it.
-- QueueSteps: A queue is still a queue after a push and after a pop.
-- ShelfTexts: Texts after their lengths, split off and appended.
pub mod Appended
pub mod NamesAsked
pub mod NamesPlaces
pub mod NamesRead
pub mod NumbersRead
pub mod OperationsRead
pub mod QueueSteps
pub mod ShelfTexts
pub mod KeyedRead
