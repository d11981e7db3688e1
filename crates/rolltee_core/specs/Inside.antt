-- Definitions for bodies only. No clause of a public function cites them.
pub mod Runs
