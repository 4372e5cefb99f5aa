pub mod Lists
pub mod Rule
pub mod Passes
pub mod History
pub mod Inside
pub mod Ends
