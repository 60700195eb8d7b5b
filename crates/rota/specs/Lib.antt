pub mod Leaders
pub mod Limits
