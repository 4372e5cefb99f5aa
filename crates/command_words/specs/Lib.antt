pub mod About
pub mod Commands
pub mod Limits
pub mod Settings
pub mod Stops
pub mod Words
