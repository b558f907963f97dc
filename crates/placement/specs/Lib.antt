pub mod Resolving
pub mod Expansion
pub mod Placing
pub mod Laws
