pub mod Called
pub mod Items
pub mod Made
