pub mod Golden
pub mod GoldenLaws
pub mod Code
