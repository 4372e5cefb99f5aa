pub mod Full
pub mod Marked
pub mod OneLane
pub mod Shown
pub mod Visits
pub mod Walked
pub mod ZeroPaths
