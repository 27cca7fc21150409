-- The text of a coefficient.
pub mod Coefficient
