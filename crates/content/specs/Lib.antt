pub mod Edits
pub mod Kinds
pub mod Marks
pub mod Numbers
pub mod Refusals
