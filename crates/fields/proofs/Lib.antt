-- Laws of the digits of a field, of the text of a number, and of the place of a byte.
pub mod Digits
pub mod Shown
pub mod Places
