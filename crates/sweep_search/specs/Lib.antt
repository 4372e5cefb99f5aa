pub mod Steps
pub mod Sweep
