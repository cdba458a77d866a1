pub mod Slots
pub mod Edits
pub mod Linked
pub mod Steps
pub mod Entering
pub mod Folded
pub mod Outside
pub mod Filtered
