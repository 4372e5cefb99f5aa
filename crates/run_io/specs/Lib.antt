pub mod Count
pub mod Desk
pub mod Sink
pub mod Numbered
pub mod MemoryDesk
pub mod MemorySink
pub mod Host
