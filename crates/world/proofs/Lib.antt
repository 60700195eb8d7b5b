pub mod Beginnings
pub mod Performances
pub mod Replays
pub mod Shelves
pub mod Sizes
pub mod Works
