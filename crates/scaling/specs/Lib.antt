-- What the code of the coefficient and the exponent computes.
pub mod Coefficient
