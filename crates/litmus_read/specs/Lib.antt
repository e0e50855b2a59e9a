pub mod Becomes
pub mod Cells
pub mod Rows
pub mod Kept
pub mod Final
pub mod Reading
