pub mod AccessLog
pub mod Sources
pub mod Supervisor
