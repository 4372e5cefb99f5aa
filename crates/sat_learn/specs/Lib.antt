pub mod Explaining
pub mod Implying
pub mod Learned
pub mod Premises
pub mod Reasons
pub mod Resolving
pub mod Tracking
pub mod Visiting
