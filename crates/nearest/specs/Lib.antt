pub mod Coarse
pub mod Agreement
pub mod AgreementLaws
