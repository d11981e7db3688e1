-- What only bodies and their proofs cite.
pub mod Candidate
pub mod Files
