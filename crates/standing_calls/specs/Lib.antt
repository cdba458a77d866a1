pub mod Room
pub mod Records
pub mod Fields
pub mod Objects
pub mod Turned
