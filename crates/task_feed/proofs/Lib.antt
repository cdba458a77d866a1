pub mod Rows
pub mod Views
pub mod Slips
pub mod Deals
pub mod Takings
pub mod Gathers
pub mod Sums
pub mod Shares
