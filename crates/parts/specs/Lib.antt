-- Parts: their text and its length.
pub mod Parts
