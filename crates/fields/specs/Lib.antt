-- What the lines and fields of an input are.
pub mod Lines
pub mod Numbers
