pub mod Resting
pub mod Running
pub mod Calls
pub mod Quick
pub mod Making
pub mod Callers
pub mod Finishing
pub mod FieldCalls
