pub mod Counts
pub mod Doing
pub mod Proposals
pub mod Relayed
pub mod Room
