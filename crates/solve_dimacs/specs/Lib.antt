pub mod Solved
pub mod Stops
pub mod Tally
pub mod Words
pub mod Written
