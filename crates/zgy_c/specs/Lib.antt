-- The definitions that the contracts of the C calls cite.
pub mod Boundary
