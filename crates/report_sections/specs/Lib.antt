pub mod Certs
pub mod Head
pub mod HeadLines
pub mod History
pub mod Items
pub mod Pieces
pub mod Proofs
pub mod Seeds
