pub mod Planes
pub mod Part
pub mod Sums
pub mod Statuses
pub mod Inner
