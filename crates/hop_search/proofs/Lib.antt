pub mod NewGoals
