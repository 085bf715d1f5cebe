-- The definitions that the contracts of subtiles cite.
pub mod Subtiles
pub mod Answers
pub mod Runs
pub mod Laws
