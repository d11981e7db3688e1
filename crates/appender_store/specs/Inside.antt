-- What only bodies and their proofs cite: which values the private fields of a folder in memory represent. Callers see
-- these only through `state_of` of MemoryView.
pub mod Calls
pub mod Entries
