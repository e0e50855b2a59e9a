pub mod Leaves
pub mod Pieces
pub mod Images
