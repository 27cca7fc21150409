-- Laws of texts of digits.
pub mod Texts
pub mod Shorts
