-- RunGoesOn: The effect of one event and of one turn on a run.
-- Turning: A script that runs turn by turn.
-- PrintedLines: The printed text, one line of a script after another.
-- NotRead: An input that is no script is not read as one.
pub mod RunGoesOn
pub mod Turning
pub mod PrintedLines
pub mod NotRead
mod ListedLemmas
mod ListingLemmas
