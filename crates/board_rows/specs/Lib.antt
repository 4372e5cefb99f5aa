pub mod Callers
pub mod Posters
