pub mod Row
pub mod Beside
pub mod Key
pub mod Chirality
pub mod Planes
pub mod Collision
pub mod Streaming
pub mod Inner
