pub mod Dimacs
pub mod Held
pub mod Literal
pub mod Meaning
pub mod Reading
pub mod Status
pub mod Text
