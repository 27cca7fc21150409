-- The bytes of a word. The contracts of every store and load of a word cite these.
pub mod Bytes
