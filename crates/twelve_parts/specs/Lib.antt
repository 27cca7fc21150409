-- Twelve parts by value.
pub mod Twelve
