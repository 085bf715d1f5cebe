-- The definitions that the contracts of sampling cite.
pub mod Samples
pub mod Laws
