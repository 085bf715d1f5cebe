-- The definitions that the contracts of bricks cite.
pub mod Bricks
pub mod Filler
