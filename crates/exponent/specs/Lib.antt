-- The text of the exponent form by its pieces, and what the code promises of it.
pub mod Coefficient
pub mod Form
