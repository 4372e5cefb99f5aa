pub mod Endings
pub mod Marks
pub mod Queries
pub mod Searched
