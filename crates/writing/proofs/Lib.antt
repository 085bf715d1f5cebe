-- Laws of writing: the headers stay while a region is written, the turns of its loops, and what its checks leave.
pub mod Keeps
pub mod Turns
pub mod Taken
