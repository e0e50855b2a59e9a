pub mod Vectors
pub mod OneRow
pub mod Known
mod Rows
mod Grouped
mod Signed
mod Words
mod Selected
mod Decoded
pub mod Encoded
