pub mod Accepted
pub mod Lrat
pub mod Reading
pub mod Spent
pub mod Standing
pub mod Text
