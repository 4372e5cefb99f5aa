pub mod Filling
pub mod Goals
pub mod Lists
pub mod Paths
pub mod Replays
pub mod Sections
