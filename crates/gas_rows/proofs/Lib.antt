pub mod Cells
pub mod Collisions
pub mod Counting
pub mod Lattices
pub mod Masks
pub mod Rows
pub mod Sums
pub mod Streaming
