pub mod FirstVisits
pub mod Walk
pub mod Zero
