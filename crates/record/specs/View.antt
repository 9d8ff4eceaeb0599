-- What the types and functions inside this crate stand for; no promise of read, find or write cites them.
pub mod Answer
pub mod Spaced
pub mod Field
pub mod Head
pub mod Segments
pub mod Table
pub mod Write
