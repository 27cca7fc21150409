-- Laws of what the reader answers.
pub mod Answers
pub mod Outcomes
pub mod Trials
