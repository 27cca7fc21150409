-- What stands around the digits: sign, prefix and padding.
pub mod Padding
