-- The answers of the entries that write parts.
pub mod Answers
