pub mod PlayLemmas
pub mod Written
pub mod LineLemmas
pub mod ScriptLemmas
pub mod TextLemmas
