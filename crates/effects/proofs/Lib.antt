pub mod Wholes
pub mod Signs
pub mod Shifts
pub mod Told
