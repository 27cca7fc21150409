-- Laws of words of digits.
pub mod Masks
pub mod Values
pub mod Shifts
