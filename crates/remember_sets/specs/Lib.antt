pub mod Filed
pub mod Linking
