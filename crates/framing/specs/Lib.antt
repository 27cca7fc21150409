-- How a text is laid out in a buffer.
pub mod Laid
