-- Where a text stands in a lent buffer. Every writer's contract cites this.
pub mod AtEnd
