pub mod Firsts
pub mod Told
pub mod Spaces
pub mod Checked
