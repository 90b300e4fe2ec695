-- Inner words: what functions of this crate promise one another. No public contract cites them.
pub mod Ring
