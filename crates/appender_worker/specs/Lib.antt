pub mod Core
pub mod CoreReplies
pub mod Runs
pub mod Parts
pub mod Tries
pub mod Batch
pub mod Served
pub mod Inside
