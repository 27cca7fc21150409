-- Laws that belong to no one function.
pub mod Ends
pub mod Room
pub mod Signed
