pub mod Numbers
pub mod Stores
pub mod Forms
pub mod Rows
pub mod Transfers
