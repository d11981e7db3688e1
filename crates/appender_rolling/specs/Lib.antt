pub mod Config
pub mod Opening
pub mod Roller
pub mod Kept
pub mod Appender
pub mod Limits
pub mod Inside
