-- Laws of texts of hex digits.
pub mod Splices
