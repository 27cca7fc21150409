-- What is found at the front of an exponent text.
pub mod Coefficients
