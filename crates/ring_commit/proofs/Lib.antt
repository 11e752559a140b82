-- Reporting: The reports of one old ring, one entry after another.
-- Hopping: The progress of a commit token in each of its rounds.
pub mod Reporting
pub mod Hopping
