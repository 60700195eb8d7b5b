pub mod Keys
pub mod Words
