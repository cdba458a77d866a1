pub mod Boxes
pub mod Colours
pub mod Endings
pub mod Pages
pub mod Pictures
