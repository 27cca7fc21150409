-- Laws of texts of digits.
pub mod Numbers
