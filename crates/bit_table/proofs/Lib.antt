-- Laws that belong to no one function.
pub mod Shift
pub mod LastPair
pub mod Rounded
pub mod Table
pub mod Examples
