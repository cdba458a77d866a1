pub mod Drawing
pub mod Standing
