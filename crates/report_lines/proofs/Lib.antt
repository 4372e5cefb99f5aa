pub mod Newlines
pub mod Splitting
