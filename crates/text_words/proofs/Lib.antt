pub mod Fields
pub mod NaturalWords
pub mod Runs
pub mod Splitting
pub mod Written
