pub mod Pages
pub mod Placement
pub mod Counts
pub mod Freeing
pub mod Ends
