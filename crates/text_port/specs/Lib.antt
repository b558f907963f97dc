pub mod Tokens
pub mod Checking
pub mod Lines
pub mod Holding
pub mod Laws
pub mod Cuts
