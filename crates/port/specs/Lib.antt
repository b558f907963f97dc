pub mod Laws
pub mod Meaning
pub mod Polarity
pub mod Tape
