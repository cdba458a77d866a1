pub mod Lattice
pub mod Numbers
