-- What the reader answers.
pub mod Answers
