pub mod Lists
pub mod Draws
pub mod Rule
pub mod Seats
pub mod Inside
