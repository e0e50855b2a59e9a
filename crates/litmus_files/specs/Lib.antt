pub mod LitmusModel
pub mod Assembled
pub mod Different
pub mod Kept
pub mod Places
