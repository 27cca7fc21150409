-- What is found of a run of digits.
pub mod Runs
