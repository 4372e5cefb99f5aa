pub mod Certificates
pub mod Evidences
pub mod KeptSets
pub mod Literals
pub mod Resets
