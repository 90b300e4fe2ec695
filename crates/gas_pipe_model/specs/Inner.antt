-- Inner words: what proofs say of lines, and of what is computed. No public contract cites them.
pub mod Line
pub mod Circle
