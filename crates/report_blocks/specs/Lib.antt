pub mod Goals
pub mod Queries
pub mod Witness
