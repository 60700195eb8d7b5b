pub mod Certificates
pub mod Entering
pub mod Going
