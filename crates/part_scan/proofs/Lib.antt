-- Laws of a part's place and of an answer's machine value, for walks by hand.
pub mod Rows
pub mod Spelled
