-- Laws of sample places, regions and writes, for the code that moves them and for the promises about whole lists of calls.
pub mod Valid
pub mod Places
pub mod Regions
pub mod Writes
pub mod Written
pub mod Rows
pub mod Runs
pub mod Calls
