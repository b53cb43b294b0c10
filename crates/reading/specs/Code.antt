-- What the contracts of functions inside the crate say; no reader of the rules needs it.
pub mod Product
pub mod Judge
