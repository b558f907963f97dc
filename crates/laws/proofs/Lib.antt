pub mod Parts
pub mod Zeros
pub mod Loads
pub mod Samples
