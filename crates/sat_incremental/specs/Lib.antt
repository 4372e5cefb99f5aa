pub mod Entries
pub mod Holding
pub mod Assuming
pub mod Outcomes
pub mod Searching
