pub mod Trail
pub mod Kept
