-- Laws of the words of specs/.
pub mod Rounding
pub mod Sums
pub mod Places
pub mod Patterns
pub mod Signed
pub mod Widening
