pub mod Copied
pub mod Holding
pub mod Marked
pub mod Changing
pub mod Sizes
pub mod Standing
pub mod Reading
pub mod Writing
