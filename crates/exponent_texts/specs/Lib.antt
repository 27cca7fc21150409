-- What is found of an exponent text.
pub mod Exponents
