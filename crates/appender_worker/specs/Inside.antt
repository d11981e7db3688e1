-- What only bodies need: private fields and steps, and what they mean. No clause of a public function cites it.
pub mod LineSteps
pub mod CoreState
pub mod Gathered
