pub mod Samples
pub mod SumLaws
pub mod ShiftLaws
pub mod Conditions
pub mod RefusalLaws
pub mod Code
