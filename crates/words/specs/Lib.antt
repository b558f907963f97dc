pub mod Registers
pub mod Immediates
pub mod Values
pub mod Coding
pub mod Acts
pub mod Unused
