pub mod Ancestry
pub mod Cells
pub mod Reading
pub mod Scans
