pub mod Objects
pub mod Works
pub mod Lists
pub mod Pages
pub mod Stacks
pub mod Seen
