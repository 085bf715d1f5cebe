-- The definitions that the contracts of table cite.
pub mod Entries
pub mod Windows
