pub mod LaneValues
pub mod Lanes
