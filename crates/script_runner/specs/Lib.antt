-- What running a script gives.
pub mod Runs
pub mod Threaded
pub mod Workers
