-- The definitions that the contracts of floats cite.
pub mod Rules
pub mod Widening
pub mod Position
