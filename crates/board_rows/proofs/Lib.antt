pub mod Listed
pub mod Posted
