pub mod Answering
pub mod LinesLeft
pub mod OneReading
pub mod Spelled
pub mod Steps
pub mod Values
pub mod WrittenBack
