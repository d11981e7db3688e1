pub mod Account
pub mod Inside
pub mod Losses
pub mod Mode
pub mod Refusal
pub mod SentLines
pub mod Work
