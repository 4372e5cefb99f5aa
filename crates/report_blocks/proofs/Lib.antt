pub mod GoalsRead
pub mod Named
pub mod QueriesRead
pub mod RowsRead
pub mod WitnessRead
