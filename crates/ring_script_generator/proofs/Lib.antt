-- ReadVotes: The nodes of a script have as many votes as their number.
-- LastLines: The schedule of a generated script that was parsed again.
pub mod ReadVotes
pub mod LastLines
