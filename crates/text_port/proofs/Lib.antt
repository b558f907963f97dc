pub mod Causes
pub mod Writes
pub mod Sends
pub mod Reached
pub mod Counts
