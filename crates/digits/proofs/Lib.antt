-- Laws that belong to no one function.
pub mod Digits
pub mod Last
pub mod Length
pub mod Count
pub mod Text
pub mod Tables
pub mod Powers
pub mod Examples
