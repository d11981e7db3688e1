pub mod Line
pub mod Report
pub mod Inside
pub mod Options
