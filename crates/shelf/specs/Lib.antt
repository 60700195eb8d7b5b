pub mod Ancestry
pub mod Blocks
pub mod Cells
