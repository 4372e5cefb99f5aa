pub mod Building
pub mod Frames
pub mod Framing
pub mod Laws
pub mod Queries
pub mod Starts
pub mod Unrolling
