-- The text of a pattern in binary, octal and hex, and how long it is.
pub mod Radix
