-- Laws of the record's definitions.
pub mod Laws
