pub mod Page
pub mod Play
pub mod Draft
pub mod Line
pub mod Script
pub mod Text
pub mod Words
