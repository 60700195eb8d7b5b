mod Edits
pub mod Contents
pub mod Numbers
mod Marks
mod Titles
