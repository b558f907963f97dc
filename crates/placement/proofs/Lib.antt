pub mod Reach
pub mod Laying
pub mod Widths
