pub mod Gathers
pub mod Inverse
