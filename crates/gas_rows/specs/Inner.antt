-- Inner words: what functions of this crate promise one another. No public contract cites them.
pub mod Planes
pub mod Mask
pub mod Key
pub mod Beside
pub mod Streaming
