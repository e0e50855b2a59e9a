pub mod RowSearch
pub mod Stems
pub mod Uppers
pub mod Counts
pub mod GoodForms
