pub mod Fault
pub mod Feed
pub mod Inside
pub mod Log
pub mod Losses
pub mod Taken
