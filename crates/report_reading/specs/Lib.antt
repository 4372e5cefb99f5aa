pub mod Sections
pub mod Spelled
