-- What the types are, over the bits: ranges, patterns, sign and magnitude, greatest decimal lengths.
pub mod Kinds
pub mod Values
