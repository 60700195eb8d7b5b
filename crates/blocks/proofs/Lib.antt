pub mod Keeping
pub mod Ones
