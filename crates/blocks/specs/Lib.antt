pub mod Keeping
pub mod Masks
pub mod Ranks
