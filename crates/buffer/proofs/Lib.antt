-- Laws that belong to no one function.
pub mod AtEnd
pub mod Left
