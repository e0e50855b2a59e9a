pub mod About
pub mod Commands
pub mod Kept
pub mod LitmusFiles
pub mod LitmusModel
pub mod Views
