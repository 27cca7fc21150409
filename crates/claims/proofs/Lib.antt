-- The proofs of the claims.
pub mod Demand1
pub mod Demand2
pub mod Demand3
pub mod Trials
pub mod OneAnswer
