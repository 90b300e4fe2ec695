pub mod Words
pub mod Planes
pub mod Shift
pub mod Inner
