pub mod Causes
pub mod Errors
pub mod Invariance
pub mod Resets
