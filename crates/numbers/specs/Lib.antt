pub mod Reading
pub mod Hex
pub mod Texts
