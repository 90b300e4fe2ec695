pub mod ErrorKinds
pub mod OneRequest
pub mod Values
