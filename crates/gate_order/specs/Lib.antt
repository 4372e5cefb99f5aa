pub mod GateOrder
pub mod OrderLaws
pub mod PlaceOrder
pub mod SortedGates
pub mod StandingGates
pub mod UserLists
