pub mod Desks
pub mod Making
pub mod Performing
pub mod Replaying
pub mod Worlds
