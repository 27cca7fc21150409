-- The codes of the formats, and the letters of the two cases.
pub mod Formats
