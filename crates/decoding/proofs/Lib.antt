-- Laws of the types of items.
pub mod Items
