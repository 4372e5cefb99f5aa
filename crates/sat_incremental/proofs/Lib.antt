pub mod Derivations
pub mod Holdings
pub mod Assumed
pub mod Growth
pub mod Kept
pub mod Ease
