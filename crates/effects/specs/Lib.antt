pub mod Whole
pub mod Effects
