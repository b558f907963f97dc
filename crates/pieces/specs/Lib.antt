pub mod Pieces
pub mod Laws
pub mod Cursors
