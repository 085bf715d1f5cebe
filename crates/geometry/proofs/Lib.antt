-- The laws of the definitions, shared by the functions' proofs and by other crates.
pub mod Powers
pub mod Levels
pub mod Entries
pub mod ShapeOf
pub mod LevelOf
