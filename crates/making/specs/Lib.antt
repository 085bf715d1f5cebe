-- The definitions that the contracts of making cite.
pub mod Making
pub mod Plan
pub mod MadeOpens
