-- What the steps to four and eight digits in a word leave.
pub mod Steps
