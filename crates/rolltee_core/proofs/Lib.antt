pub mod Counts
pub mod Ends
pub mod Openings
pub mod Outcome
pub mod Runs
pub mod Sent
pub mod Taken
pub mod Timed
