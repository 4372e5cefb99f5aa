pub mod FrontWord
pub mod Scales
