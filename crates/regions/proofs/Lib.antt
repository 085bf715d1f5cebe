-- Laws that the proofs of regions cite.
pub mod Finds
pub mod Lowest
pub mod Blocks
pub mod Verdicts
