pub mod Lists
pub mod Rule
pub mod Seats
pub mod Inside
