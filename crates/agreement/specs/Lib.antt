pub mod Committed
pub mod History
pub mod Laws
pub mod Run
pub mod Setting
pub mod Theorem
pub mod Witness
