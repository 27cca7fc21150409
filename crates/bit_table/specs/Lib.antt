-- Digits that stand for so many bits each: their bytes, and how many there are.
pub mod Bits
