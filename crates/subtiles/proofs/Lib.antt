-- Laws shared by the functions' proofs.
pub mod Sides
pub mod Answers
pub mod Numbers
pub mod Orders
pub mod Permutation
