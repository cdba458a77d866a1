pub mod Rule
pub mod Steps
pub mod Singles
pub mod Seats
pub mod Made
