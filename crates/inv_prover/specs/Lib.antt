pub mod Answers
pub mod Candidates
pub mod Dependents
pub mod Greatest
pub mod Laws
pub mod Search
