pub mod Answers
pub mod Framed
pub mod Laws
