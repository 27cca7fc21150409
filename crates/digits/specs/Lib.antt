-- What digits are, in any base, and the tables of them. The contracts of every layer cite these.
pub mod Digits
pub mod Text
pub mod Tables
