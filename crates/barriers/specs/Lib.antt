pub mod Shown
pub mod Barred
