pub mod Checks
pub mod House
pub mod Rolls
pub mod SipHash
