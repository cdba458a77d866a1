pub mod Laid
pub mod Reach
pub mod Listed
pub mod Walked
