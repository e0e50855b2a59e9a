pub mod ItemTable
pub mod ItemRule
pub mod ItemRuns
pub mod ItemRows
pub mod CodeMap
pub mod Keys
pub mod Divisors
