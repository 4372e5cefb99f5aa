pub mod LinkPaths
pub mod Distinctness
pub mod Ring
pub mod Search
