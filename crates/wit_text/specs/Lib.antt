pub mod Reading
pub mod WitnessText
