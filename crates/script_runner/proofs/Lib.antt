pub mod Runs
pub mod Worked
pub mod Hired
