pub mod Passing
pub mod PassingLaws
pub mod Salvaging
pub mod Rules
pub mod MatchLaws
pub mod RuleLaws
pub mod SalvageLaws
pub mod Code
