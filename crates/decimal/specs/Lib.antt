-- What the end entries promise.
pub mod Ends
