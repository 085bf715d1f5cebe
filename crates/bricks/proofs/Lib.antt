-- Laws of brick kind and brick view.
pub mod Words
pub mod Entries
pub mod Views
