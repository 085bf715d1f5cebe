-- Laws of runs: the lattice's numbers, what a taken verdict gives, buffers that are filled part by part, and what a reader's loops ask and give.
pub mod Lattices
pub mod Products
pub mod Steps
pub mod Sizes
pub mod Answers
pub mod Boxes
pub mod Rows
pub mod Sites
pub mod Readers
