pub mod Bits
pub mod Fields
pub mod Codes
pub mod Shifts
