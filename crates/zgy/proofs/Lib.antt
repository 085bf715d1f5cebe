-- The proofs of the statements of specs/Demands.antt.
pub mod Steps
pub mod Open
pub mod Whole
pub mod Worked
pub mod Refusals
pub mod Cubes
pub mod Witness
