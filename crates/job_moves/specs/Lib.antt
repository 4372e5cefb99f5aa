pub mod Jobs
pub mod Moves
