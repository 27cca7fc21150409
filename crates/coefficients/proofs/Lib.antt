-- Laws of the front of an exponent text.
pub mod Places
mod Coefficients
