-- The definitions that the contracts of positions cite.
pub mod Positions
