-- What a format is to a reader, the place where a text leaves a shape, the seven formats, and the plain text of a value.
pub mod Form
pub mod Whole
pub mod Formats
pub mod Judged
