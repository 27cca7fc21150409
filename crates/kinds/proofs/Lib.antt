-- Laws that belong to no one function.
pub mod Patterns
pub mod Sizes
