-- The definitions that the contracts of opening cite.
pub mod Opening
pub mod Cube
