-- What the exponent form is: its arithmetic, its text, the shape that is read, what is demanded of it, and which texts are canonical.
pub mod Sci
pub mod Layout
pub mod Shape
pub mod Demand
pub mod Canonical
