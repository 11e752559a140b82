pub mod LockVocabulary
pub mod Locks
pub mod LocksLaws
