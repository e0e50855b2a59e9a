pub mod Ascending
pub mod Entries
mod Examples
pub mod KeyOrder
pub mod Parts
pub mod Permuted
pub mod Reciprocals
pub mod Rows
pub mod Rule
pub mod Runs
