-- Laws of the checks.
pub mod Texts
pub mod Described
pub mod Records
