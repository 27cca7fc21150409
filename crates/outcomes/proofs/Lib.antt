-- Laws of the answer for a value, and of what a text is found to be.
pub mod Ranges
pub mod Found
