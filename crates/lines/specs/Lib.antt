pub mod Lines
pub mod Places
pub mod Laws
pub mod Cuts
