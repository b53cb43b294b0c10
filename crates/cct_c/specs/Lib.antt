pub mod Plain
pub mod PlainBoards
pub mod PlainComparison
pub mod PlainSalvage
