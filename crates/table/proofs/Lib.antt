-- Laws of the definitions, for callers and for the functions' proofs.
pub mod Words
pub mod Search
pub mod Range
pub mod Overlaps
pub mod Tables
pub mod Cells
