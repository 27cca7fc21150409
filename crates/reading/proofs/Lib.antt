-- Laws of reading.
pub mod Place
pub mod Whole
pub mod Faithful
pub mod Judged
pub mod Exponent
