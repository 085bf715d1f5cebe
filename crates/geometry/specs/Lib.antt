-- The definitions that the contracts of geometry cite.
pub mod Limits
pub mod Geometry
pub mod Laws
