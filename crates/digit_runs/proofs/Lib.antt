-- Laws of runs of digits.
pub mod Runs
