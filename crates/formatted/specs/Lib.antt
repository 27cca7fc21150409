-- Three parts by value.
pub mod Three
