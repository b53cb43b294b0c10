-- What the contracts of the program's own functions say.
pub mod Turns
