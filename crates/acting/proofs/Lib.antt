pub mod Offers
pub mod Ticks
