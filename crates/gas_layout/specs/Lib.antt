pub mod Layout
pub mod Inner
