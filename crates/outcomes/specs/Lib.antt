-- What reading answers of a value, and what a text is found to be.
pub mod Outcomes
pub mod Found
