pub mod Finding
pub mod Noting
pub mod Reading
pub mod Taking
