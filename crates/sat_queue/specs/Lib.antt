pub mod Order
pub mod Linked
