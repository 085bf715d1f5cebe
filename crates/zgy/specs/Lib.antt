-- The promises about opened cubes as a whole.
pub mod Ledger
pub mod Demands
pub mod Refusals
pub mod Cubes
pub mod Worked
