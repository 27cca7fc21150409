-- The text of a call, the one answer to it, and what an entry promises.
pub mod Text
pub mod Promise
