pub mod Ignoring
pub mod Local
pub mod Feeding
pub mod Owed
pub mod Additions
pub mod Composed
pub mod OwedBy
