-- Laws of reading: what a turn reads of the rows of a box, and what a taken verdict gives.
pub mod Turns
pub mod Taken
