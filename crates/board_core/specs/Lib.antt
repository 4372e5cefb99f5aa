pub mod Core
pub mod Faults
pub mod Good
pub mod History
pub mod Posts
