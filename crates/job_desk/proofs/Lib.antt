pub mod Sums
pub mod Views
pub mod Steps
pub mod Ends
pub mod Sent
