-- Laws of text that is poured piece by piece.
pub mod Pour
pub mod Decimal
