-- The laws of a turn of the loop, and of a buffer that is lent on.
pub mod Lent
mod Back
