pub mod Archive
pub mod Calendar
pub mod DateText
pub mod Equality
pub mod InitError
pub mod Name
pub mod Rotation
pub mod RotationText
