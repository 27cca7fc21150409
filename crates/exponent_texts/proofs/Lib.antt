-- Laws of exponent texts.
pub mod Exponents
pub mod Magnitudes
