pub mod Steps
pub mod Opening
pub mod Collecting
pub mod Makings
pub mod EpochEnds
pub mod Done
pub mod Callers
