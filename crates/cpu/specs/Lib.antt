pub mod Stops
pub mod States
pub mod Steps
