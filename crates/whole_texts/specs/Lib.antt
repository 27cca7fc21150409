-- Texts of digits, by sign and number.
pub mod Wholes
