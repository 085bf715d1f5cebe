-- Laws of the listing.
pub mod Taken
pub mod Lines
