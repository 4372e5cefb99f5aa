pub mod Levels
pub mod LiteralValues
pub mod Representation
pub mod Lookup
pub mod Reasons
pub mod Consistency
