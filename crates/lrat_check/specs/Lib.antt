pub mod Answers
pub mod Assumptions
pub mod ClauseKeys
pub mod FirstFault
pub mod HintIds
pub mod SpentFault
pub mod StoredClauses
