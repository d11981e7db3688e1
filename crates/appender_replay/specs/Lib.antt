pub mod Start
pub mod Headline
pub mod RollHeadline
pub mod Run
pub mod Replay
pub mod Record
pub mod Whole
pub mod Inside
