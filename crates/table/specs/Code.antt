-- What the functions of this crate hand each other.
pub mod Scan
