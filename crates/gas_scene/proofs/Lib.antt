pub mod Firsts
pub mod Maps
pub mod Areas
pub mod Documents
pub mod Values
pub mod Tables
pub mod Checkpoints
