-- The definitions that the contracts of checks cite.
pub mod Checks
pub mod Fits
