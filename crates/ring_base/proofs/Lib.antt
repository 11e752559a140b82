-- Each: facts about each element of a list. Rows: one step of a loop over a list. ListFronts: prefixes of a list.
-- ListPlaces: the elements at a list's places, and ranges. Results: facts about a result. Pairs: facts about a pair
-- with a result's value. Faults: whether a refusal is Stopped or Memory.
-- Cases: the outcome of a choice, an option or a comparison.
-- TwoEqual: a function of two equal arguments. SameRing: equal names of rings. Lent: the lifetimes of borrowed
-- values.
-- Taking: taking out the smallest member of a set. TurnsRound: turns round a set, by remainders. Votes: votes added
-- place by place.
-- SetWords: the code's computations on words of 16 bits.
pub mod Each
pub mod Rows
pub mod ListFronts
pub mod ListPlaces
pub mod Results
pub mod Pairs
pub mod Faults
pub mod Cases
pub mod TwoEqual
pub mod SameRing
pub mod Lent
pub mod Taking
pub mod TurnsRound
pub mod Votes
pub mod SetWords
