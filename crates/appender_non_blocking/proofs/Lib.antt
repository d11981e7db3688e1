pub mod Ended
pub mod Histories
pub mod Holding
pub mod Jobs
pub mod Refused
pub mod Serving
pub mod Work
