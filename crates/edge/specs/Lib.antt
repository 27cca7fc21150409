-- The C edge's own numbers.
pub mod Edge
