pub mod Corrected
pub mod Crossing
pub mod Entering
pub mod Pool
pub mod Reshaped
pub mod Row
pub mod Settled
pub mod Slots
