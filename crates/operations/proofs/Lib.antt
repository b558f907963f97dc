pub mod Tables
pub mod Takes
