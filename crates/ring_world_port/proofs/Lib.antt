-- Groups: The members of a group are processors of the world.
-- Submits: The result of a submit, from the world's reports after it.
-- SubmitTells: The reports of a submit.
-- PortTurn: The effect of a turn where a copy is open.
pub mod Groups
pub mod Submits
pub mod SubmitTells
pub mod PortTurn
