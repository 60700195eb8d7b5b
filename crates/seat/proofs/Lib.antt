pub mod Guards
pub mod Nth
pub mod Outcomes
