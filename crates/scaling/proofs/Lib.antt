-- Laws that belong to no one function.
pub mod LastZeros
pub mod Scaling
