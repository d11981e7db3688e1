pub mod TakeCases
pub mod Locked
pub mod Offers
pub mod EmptyQueue
pub mod Tally
