-- The definitions that the contracts of regions cite.
pub mod Search
