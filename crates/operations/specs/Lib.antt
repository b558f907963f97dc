pub mod Mnemonics
pub mod Kinds
pub mod Fields
pub mod Reading
pub mod Ranges
