pub mod Lines
pub mod Numbers
pub mod Text
pub mod Words
