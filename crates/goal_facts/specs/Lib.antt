pub mod Found
pub mod Invariants
pub mod Laws
pub mod Seeds
