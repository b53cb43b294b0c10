pub mod Range
pub mod Product
pub mod Halves
pub mod Rules
