-- Laws that belong to no one function.
pub mod Text
pub mod Writing
pub mod Examples
