-- Inner words: what functions of this crate promise one another. No public contract cites them.
pub mod Worker
pub mod Feeder
pub mod Crew
pub mod Links
