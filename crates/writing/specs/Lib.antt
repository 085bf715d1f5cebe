-- The definitions that the contracts of writing cite.
pub mod Writes
