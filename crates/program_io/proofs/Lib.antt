pub mod Copied
pub mod Pieces
pub mod Reported
pub mod Faults
pub mod Units
pub mod Words
