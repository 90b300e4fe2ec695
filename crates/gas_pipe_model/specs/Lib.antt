pub mod Line
pub mod Plan
pub mod Pass
pub mod Inner
