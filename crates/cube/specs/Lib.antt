-- The definitions that the calls on an opened cube are stated in.
pub mod Places
pub mod Regions
pub mod Calls
pub mod Written
