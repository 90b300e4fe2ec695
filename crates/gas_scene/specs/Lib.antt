pub mod Catalog
pub mod Table
pub mod Keys
pub mod Refusals
pub mod Scene
pub mod Checkpoint
pub mod Inner
