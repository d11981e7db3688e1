pub mod Rank
pub mod Survival
pub mod Pruning
pub mod Inside
