-- The definitions that the contracts of record cite.
pub mod Answers
pub mod Types
pub mod Header
pub mod Record
