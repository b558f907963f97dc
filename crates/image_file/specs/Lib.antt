pub mod Bytes
pub mod Calls
pub mod Files
pub mod Laws
pub mod Refusals
