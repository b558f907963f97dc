pub mod Capped
pub mod Values
pub mod Told
pub mod Spelled
pub mod Places
