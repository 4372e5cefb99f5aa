pub mod GoalCircuit
pub mod Laws
