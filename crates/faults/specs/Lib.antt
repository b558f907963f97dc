pub mod Faults
pub mod Chains
