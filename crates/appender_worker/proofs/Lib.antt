pub mod Written
pub mod Asking
pub mod Gathered
pub mod Batches
pub mod Served
