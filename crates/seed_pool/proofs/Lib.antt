pub mod Sums
pub mod Steps
pub mod Misses
pub mod Ends
pub mod NewSeats
