-- Digits side by side in a word, and the bytes of hex digits.
pub mod Lanes
pub mod Letters
