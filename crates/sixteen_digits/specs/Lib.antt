-- What it is to be a text of hex digits.
pub mod Hex
