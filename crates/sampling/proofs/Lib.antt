-- Laws of the float read.
pub mod Pieces
pub mod Strips
pub mod Taken
