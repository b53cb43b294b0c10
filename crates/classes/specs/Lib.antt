pub mod Edges
pub mod Classes
pub mod EdgeLaws
pub mod ClassLaws
