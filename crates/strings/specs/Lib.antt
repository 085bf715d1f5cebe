pub mod Strings
pub mod Five
