-- Laws that belong to no one function.
pub mod Lanes
pub mod Letters
pub mod Tails
pub mod Wider
pub mod Bits
pub mod Examples
pub mod Halves
