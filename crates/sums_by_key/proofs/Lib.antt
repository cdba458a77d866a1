mod Adding
mod Bounds
mod Parts
mod Texts
